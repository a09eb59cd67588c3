use Rattle.lint_text.specs.Places.{places_in}
use Rattle.lint_text.specs.declared.places.Places.{Places}
use Rattle.lint_text.proofs.places.places_in.Goals as goal

pub returns : goal.returns
unfolding places_in
returns c = λ i.
    let found : Places =
    record {
      rules = c.in_ok-places_of.ensures i;
      registers = c.in_ok-places_of-2.ensures i;
      inputs = c.in_ok-places_of-3.ensures i;
      tables = c.in_ok-places_of-4.ensures i;
      hosts = c.in_ok-places_of-5.ensures i;
    } in found
