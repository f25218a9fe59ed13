use Rattle.std.specs.Int.{w64, to_be_bytes}
use Rattle.std.proofs.Common.{rules, ◌≡◌, ◌∷◌, ◌++◌, length, take, ap, ◌∙◌, arith}
use Rattle.suite_content.proofs.Numbered.{number_behind}
use Rattle.suite_content.proofs.gathering.put_numbered.Goals as goal

pub returns-clause-bytes : goal.returns-clause-bytes
returns-clause-bytes c =
    let front = take c.args.at c.args.buffer.now in
    let name = c.args.name.now in
    let end = c.put_counted-end.result in
    let number = c.copy_from_slice.new.self in
    let is : number ≡ to_be_bytes w64 c.args.number = search rules in
    number_behind end _ c.put_counted-end.new.buffer number front (length name ∷ name) (omega (arith, c.put_counted-end.array_long, c.put_counted-end.ensures.end, c.requires)) (ap length is) c.put_counted-end.ensures.bytes
    ∙ ap (λ l. front ++ (length name ∷ (name ++ l))) is
