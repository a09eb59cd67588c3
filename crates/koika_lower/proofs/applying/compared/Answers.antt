use Rattle.koika_lower.proofs.Bindings.{on_ok}
use Rattle.koika_lower.proofs.applying.compared.Goals as goal

pub returns : goal.returns
returns c =
    on_ok c.formed.result
    (λ l h. record {
      form = c.form_of_comparison.result;
      left = c.last_of-left.result;
      right = c.last_of-right.result;
      before = _;
      init = _;
      last = c.last_of-right.ensures;
      first = c.last_of-left.ensures;
      value = c.form_of_comparison.ensures.value;
      fits = c.form_of_comparison.ensures.fits;
      formed = h;
    })
    c.formed.ensures
