use Rattle.std.proofs.Common.{◌≡◌, List, refl, sym, subst}
use Rattle.net_graph.specs.Nets.{Stands, widths_of}
use Rattle.net_graph.specs.declared.node.NetOp.{NetOp}
use Rattle.net_graph.specs.declared.node.NetOp.TheVariants.{One, Slice, Uext, Sext}
use Rattle.net_simplify.specs.inner.Forms.{Equals}
use Rattle.net_simplify.specs.declared.form.Form.{Form}
use Rattle.net_simplify.specs.declared.form.Form.TheVariants.{Node}
use Rattle.net_simplify.proofs.Standing.{within_node}
use Rattle.net_simplify.proofs.Untouched.{reduction_untouched, sext_untouched, slice_untouched, uext_untouched}
use Rattle.net_simplify.proofs.form.untouched.Goals as goal

taken : (net : List NetOp) (op other : NetOp) → op ≡ other → Stands (widths_of net) op → Stands (widths_of net) other
taken net op other e h = subst (λ (o : NetOp). Stands (widths_of net) o) e h

equal : (net : List NetOp) (op other : NetOp) (form : Form) → op ≡ other → Equals net other form → Equals net op form
equal net op other form e h = subst (λ (o : NetOp). Equals net o form) (sym e) h

pub width-requires : goal.width-requires
width-requires c = within_node c.args.net.now c.requires.net c.in-Slice.a (taken c.args.net.now c.args.op (Slice c.in-Slice.a c.in-Slice.upper c.in-Slice.lower) c.in-Slice.is c.requires.stands).0

pub width-requires-then-is_reduction : goal.width-requires-then-is_reduction
width-requires-then-is_reduction c = within_node c.args.net.now c.requires.net c.in-One.a (taken c.args.net.now c.args.op (One c.in-One.operator c.in-One.a) c.in-One.is c.requires.stands)

pub returns-in-Slice-clause-stands : goal.returns-in-Slice-clause-stands
returns-in-Slice-clause-stands c = within_node c.args.net.now c.requires.net c.in-Slice.a (taken c.args.net.now c.args.op (Slice c.in-Slice.a c.in-Slice.upper c.in-Slice.lower) c.in-Slice.is c.requires.stands).0

pub returns-in-Slice-clause-equals : goal.returns-in-Slice-clause-equals
returns-in-Slice-clause-equals c = equal c.args.net.now c.args.op (Slice c.in-Slice.a c.in-Slice.upper c.in-Slice.lower) (Node c.in-Slice.a) c.in-Slice.is (slice_untouched c.args.net.now c.requires.net c.in-Slice.a c.in-Slice.upper c.in-Slice.lower c.width.result (taken c.args.net.now c.args.op (Slice c.in-Slice.a c.in-Slice.upper c.in-Slice.lower) c.in-Slice.is c.requires.stands) c.width.ensures.width c.if-lower-eq0.true c.if-upper-width.true)

pub returns-in-Uext-clause-stands : goal.returns-in-Uext-clause-stands
returns-in-Uext-clause-stands c = within_node c.args.net.now c.requires.net c.in-Uext.a (taken c.args.net.now c.args.op (Uext c.in-Uext.a c.in-Uext.added) c.in-Uext.is c.requires.stands).0

pub returns-in-Uext-clause-equals : goal.returns-in-Uext-clause-equals
returns-in-Uext-clause-equals c = equal c.args.net.now c.args.op (Uext c.in-Uext.a c.in-Uext.added) (Node c.in-Uext.a) c.in-Uext.is (uext_untouched c.args.net.now c.requires.net c.in-Uext.a c.in-Uext.added (taken c.args.net.now c.args.op (Uext c.in-Uext.a c.in-Uext.added) c.in-Uext.is c.requires.stands) c.if-added-eq0.true)

pub returns-in-Sext-clause-stands : goal.returns-in-Sext-clause-stands
returns-in-Sext-clause-stands c = within_node c.args.net.now c.requires.net c.in-Sext.a (taken c.args.net.now c.args.op (Sext c.in-Sext.a c.in-Sext.added) c.in-Sext.is c.requires.stands).0

pub returns-in-Sext-clause-equals : goal.returns-in-Sext-clause-equals
returns-in-Sext-clause-equals c = equal c.args.net.now c.args.op (Sext c.in-Sext.a c.in-Sext.added) (Node c.in-Sext.a) c.in-Sext.is (sext_untouched c.args.net.now c.requires.net c.in-Sext.a c.in-Sext.added (taken c.args.net.now c.args.op (Sext c.in-Sext.a c.in-Sext.added) c.in-Sext.is c.requires.stands) c.if-added-eq0-2.true)

pub returns-in-One-clause-stands : goal.returns-in-One-clause-stands
returns-in-One-clause-stands c = within_node c.args.net.now c.requires.net c.in-One.a (taken c.args.net.now c.args.op (One c.in-One.operator c.in-One.a) c.in-One.is c.requires.stands)

pub returns-in-One-clause-equals : goal.returns-in-One-clause-equals
returns-in-One-clause-equals c = equal c.args.net.now c.args.op (One c.in-One.operator c.in-One.a) (Node c.in-One.a) c.in-One.is (reduction_untouched c.args.net.now c.requires.net c.in-One.operator c.in-One.a c.width-then-is_reduction.result (taken c.args.net.now c.args.op (One c.in-One.operator c.in-One.a) c.in-One.is c.requires.stands) (c.if-is_reduction.ensures refl) c.width-then-is_reduction.ensures.width c.if-width-eq1.true)
