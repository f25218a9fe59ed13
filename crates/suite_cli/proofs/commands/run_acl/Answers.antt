use Rattle.std.proofs.Common.{map, refl}
use Rattle.byte_streams.specs.Endings.{done}
use Rattle.suite_cli.proofs.Asked.{not_named}
use Rattle.suite_cli.proofs.Ran.{all_written, not_listed, not_read, not_written, streams_of, writes_text}
use Rattle.suite_cli.specs.Names.{names_from}
use Rattle.suite_cli.specs.Outputs.{acl_output}
use Rattle.suite_cli.specs.code.Errors.{of_read}
use Rattle.suite_cli.specs.declared.command_error.CommandError.TheVariants.{Stream}
use Rattle.suite_script.proofs.Gathering.{failed}
use Rattle.suite_script.specs.Scripts.{no_names}
use Rattle.suite_cli.proofs.commands.run_acl.Goals as goal

pub returns-in_err-names : goal.returns-in_err-names
returns-in_err-names g c =
    let error = c.in_err-names.field-0.0 in
    rw (failed c.from_residual.result error c.from_residual.ensures)
    (λ status after failures told. not_named error (names_from 1 no_names (map (λ word. word.now) c.args.words.now)) _ status c.in_err-names.ensures (refl, refl) told)

pub returns-in_err-text : goal.returns-in_err-text
returns-in_err-text g c =
    let error = c.in_err-text.field-0.0 in
    rw (failed c.from_residual-in_err-text.result (of_read error) c.from_residual-in_err-text.ensures, c.in_ok-names.ensures)
    (λ status after failures told. not_read error (acl_output c.in_ok-names.names) (streams_of _ _ _ (g.I.ByteIn.failed_reads c.args.reader.now) _ _ _) status _ c.in_err-text.ensures.err c.in_err-text.ensures.memory told)

pub returns-in_err-list : goal.returns-in_err-list
returns-in_err-list g c =
    let error = c.in_err-list.field-0.0 in
    let gives = rw c.deref.ensures.value at c.in_err-list.ensures in
    rw (failed c.from_residual-in_err-list.result error c.from_residual-in_err-list.ensures, c.in_ok-names.ensures)
    (λ status after failures told. not_listed error (acl_output c.in_ok-names.names) (streams_of _ _ _ (g.I.ByteIn.failed_reads c.args.reader.now) _ _ _) status
    c.in_ok-text.text.items _ c.in_ok-text.ensures.ok c.in_ok-text.ensures.kept gives told)

pub returns-in_err-write_all : goal.returns-in_err-write_all
returns-in_err-write_all g c =
    let now = g.O.ByteOut.written c.write_all.new.stream in
    let failures = g.O.ByteOut.failed_writes c.write_all.new.stream in
    rw (failed c.from_residual-in_err-write_all.result Stream c.from_residual-in_err-write_all.ensures, c.in_ok-names.ensures)
    (λ status after failures_after told. not_written (acl_output c.in_ok-names.names)
    (streams_of _ _ _ (g.I.ByteIn.failed_reads c.args.reader.now) _ (g.O.ByteOut.failed_writes c.args.writer.now) _) status _ now failures c.in_err-write_all.ensures.err told)

pub returns : goal.returns
returns g c =
    let output = acl_output c.in_ok-names.names in
    let text = c.in_ok-text.text.items in
    let list = c.in_ok-list.list.items in
    let is = rw c.deref.ensures.value at c.in_ok-list.ensures in
    let added = rw c.deref-2.ensures.value at c.in_ok-write_all.ensures.ok in
    rw c.in_ok-names.ensures (all_written output (streams_of _ _ _ (g.I.ByteIn.failed_reads c.args.reader.now) _ (g.O.ByteOut.failed_writes c.args.writer.now) _) done text _
    c.in_ok-text.ensures.ok (writes_text (output text) list _ _ is added))
