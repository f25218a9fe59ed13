use Rattle.std.proofs.Common.{◌≡◌, ◌∙◌, ap, codes, refl, unwrap_or, option_map, List, [], map, Option, Some, None, Bor}
use Rattle.clap.proofs.WalkLemmas.{raw_values-rows}
use Rattle.clap.specs.Words.{Text, found_of}
use Rattle.suite_args.proofs.answer.names_in.Goals as goal

words_of : (given : Option (Bor (List (Bor Text)))) (default : Bor (List (Bor Text))) → default.now ≡ []
    → map (λ w. w.now) (unwrap_or given default).now ≡ unwrap_or (option_map (λ s. map (λ w. w.now) s.now) given) []
words_of (Some words) default is = refl
words_of None default is = ap (map (λ (w : Bor Text). w.now)) is

pub returns : goal.returns
returns c =
    c.in_ok-new.ensures ∙ ap (λ (s : Bor (List (Bor Text))). map (λ w. w.now) s.now) c.unwrap_or-words.ensures ∙ words_of c.get_raw.result _ refl
    ∙ ap (λ o. unwrap_or o []) (c.get_raw.ensures ∙ raw_values-rows (found_of c.args.arguments.now) (codes "NAME"))
