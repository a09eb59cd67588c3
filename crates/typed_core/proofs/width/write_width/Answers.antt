use Rattle.typed_core.proofs.width.write_width.Goals as goal

pub returns-in_err-access_width : goal.returns-in_err-access_width
returns-in_err-access_width c = rw c.from_residual.ensures (λ w t. c.in_err-access_width.ensures c.args.held (t.0, t.1))
