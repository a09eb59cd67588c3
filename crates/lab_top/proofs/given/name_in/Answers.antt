use Rattle.std.proofs.Common.{◌≡◌, ◌∙◌, ap, IfOk, Result, Ok, Err}
use Rattle.std.specs.Prelude.{option_and_then}
use Rattle.clap.specs.Words.{found_of}
use Rattle.clap.proofs.WalkLemmas.{first_value-rows}
use Rattle.lab_top.specs.Words.{name_of}
use Rattle.lab_top.proofs.given.name_in.Goals as goal

-- what is known of a value is known of its equal
ok-along : {X E : Type 0} (r : Result X E) (x y : X) → x ≡ y → IfOk r (λ found. found ≡ x) → IfOk r (λ found. found ≡ y)
ok-along (Ok z) x y e h = h ∙ e
ok-along (Err z) x y e h = h

pub returns-in-Some : goal.returns-in-Some
returns-in-Some c =
    ok-along c.name_of.result _ _
    (ap name_of c.as_bytes.ensures.value ∙ ap (option_and_then name_of) (c.in-Some.ensures ∙ first_value-rows (found_of c.args.matches.now) c.args.id.now))
    c.name_of.ensures

pub returns-in-None : goal.returns-in-None
returns-in-None c = ap (option_and_then name_of) (c.in-None.ensures ∙ first_value-rows (found_of c.args.matches.now) c.args.id.now)
