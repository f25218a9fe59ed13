-- What the operator asks of servers.
use Rattle.rep_core.specs.declared.request.Request.{Request}
use Rattle.rep_core.specs.declared.request.Request.TheVariants as request
use Rattle.run_core.specs.declared.operator.Order.{Order}
use Rattle.run_core.specs.declared.operator.Order.TheVariants as order

abbrev pub request_of : Order → Request
request_of order.Crash = request.Crash
request_of order.Return = request.Return
