-- A net with one more operator.
use Rattle.std.proofs.Common.{◌≡◌, ℕ, ◌+◌, ◌<◌, ◌⊎◌, inl, inr, true, false, List, [], ◌∷◌, ◌++◌, length, refl, sym, ap, ap₂, subst, ◌∙◌, arith, append-nil, length-append}
use Rattle.std.specs.Prelude.{slice_get, Some}
use Rattle.std.specs.List.{list_any}
use Rattle.std.proofs.lemmas.Bool.{cases_Bool, both_ways}
use Rattle.std.proofs.lemmas.List.Elements.{All-push}
use Rattle.net_graph.specs.Nets.{Adds, IsNet, Stands, op_width, width_at, widths_of}
use Rattle.net_graph.specs.Operators.{one_width, two_width}
use Rattle.net_graph.specs.Values.{AllRead, Reads, Sources, node_value, op_value, values_of}
use Rattle.net_graph.specs.declared.node.NetOp.{NetOp}
use Rattle.net_graph.specs.declared.node.NetOp.TheVariants.{Const, Input, State, One, Two, Slice, Uext, Sext, Ite}
use Rattle.net_graph.proofs.OneByOne.{get_or-one_by_one-append, length-one_by_one}
use Rattle.net_graph.proofs.Sharing.{contains_from_found, equal, found_from_contains}
use Rattle.net_graph.proofs.Values.{values-by_operators, values-kept}

-- a net begins with another
pub record Begins (old new : List NetOp) : Type 0 where
  pub more : List NetOp
  pub is : new ≡ old ++ more

-- a net with one more operator begins with the net before
pub grown : (old new : List NetOp) (op : NetOp) (id : ℕ) → Adds old op id new → Begins old new
grown old new op id adds = by (cases_Bool (list_any (equal op) old))
  where
    by : (list_any (equal op) old ≡ true) ⊎ (list_any (equal op) old ≡ false) → Begins old new
    by (inl there) = record { more = []; is = adds.shared (contains_from_found old op there) ∙ sym (append-nil old) }
    by (inr absent) = record { more = op ∷ []; is = adds.last (λ there. both_ways _ absent (found_from_contains old op there)) }

-- and reads what it reads and the operator
pub reads-more : (inputs states : List ℕ) (old new : List NetOp) (op : NetOp) (id : ℕ) → Adds old op id new → Reads inputs states op → AllRead inputs states old → AllRead inputs states new
reads-more inputs states old new op id adds reads all = by (cases_Bool (list_any (equal op) old))
  where
    by : (list_any (equal op) old ≡ true) ⊎ (list_any (equal op) old ≡ false) → AllRead inputs states new
    by (inl there) = subst (λ (net : List NetOp). AllRead inputs states net) (sym (adds.shared (contains_from_found old op there))) all
    by (inr absent) =
        subst (λ (net : List NetOp). AllRead inputs states net) (sym (adds.last (λ there. both_ways _ absent (found_from_contains old op there)))) (All-push (Reads inputs states) old op all reads)

pub inside-more : (old new : List NetOp) (node : ℕ) → Begins old new → node < length old → node < length new
inside-more old new node b inside = subst (λ (net : List NetOp). node < length net) (sym b.is) (omega (arith, length-append old b.more))

pub width-more : (old new : List NetOp) (node : ℕ) → Begins old new → node < length old → width_at (widths_of new) node ≡ width_at (widths_of old) node
width-more old new node b inside = ap (λ (net : List NetOp). width_at (widths_of net) node) b.is ∙ get_or-one_by_one-append op_width old b.more node 0 inside

pub value-more : (s : Sources) (old new : List NetOp) (node : ℕ) → Begins old new → node < length old → node_value s new node ≡ node_value s old node
value-more s old new node b inside = ap (λ (net : List NetOp). node_value s net node) b.is ∙ values-kept s old b.more node inside

-- and its operator's value
pub node-follows : (s : Sources) (net : List NetOp) (id : ℕ) (op : NetOp) → IsNet net → slice_get net id ≡ Some op → node_value s net id ≡ op_value s (values_of s net) op
node-follows s net id op is at = values-by_operators s net id op is at

within-old : (net : List NetOp) (a : ℕ) → a < length (widths_of net) → a < length net
within-old net a inside = omega (arith, length-one_by_one op_width [] net)

-- an operator has the same width over a net that begins with the one that it stands over
pub op-width-more : (old new : List NetOp) (op : NetOp) → Begins old new → Stands (widths_of old) op → op_width (widths_of new) op ≡ op_width (widths_of old) op
op-width-more old new (Const value) b stands = refl
op-width-more old new (Input number width) b stands = refl
op-width-more old new (State number width) b stands = refl
op-width-more old new (One operator a) b stands = ap (one_width operator) (width-more old new a b (within-old old a stands))
op-width-more old new (Two operator x y) b stands = ap₂ (two_width operator) (width-more old new x b (within-old old x stands.0)) (width-more old new y b (within-old old y stands.1))
op-width-more old new (Slice a upper lower) b stands = refl
op-width-more old new (Uext a added) b stands = ap (λ (w : ℕ). w + added) (width-more old new a b (within-old old a stands.0))
op-width-more old new (Sext a added) b stands = ap (λ (w : ℕ). w + added) (width-more old new a b (within-old old a stands.0))
op-width-more old new (Ite condition x y) b stands = width-more old new x b (within-old old x stands.1)
