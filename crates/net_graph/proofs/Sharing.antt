-- Equal operators, and how a net grows by one that is new.
use Rattle.std.proofs.Common.{◌≡◌, ℕ, Bool, true, false, cond, List, [], ◌∷◌, ◌++◌, refl, sym, ap, ◌∙◌, Contains, Decides, rules, not}
use Rattle.std.specs.Prelude.{slice_get, Some}
use Rattle.indexmap.specs.IndexSet.{insert_key}
use Rattle.std.specs.List.{list_any, IsDistinct}
use Rattle.std.proofs.lemmas.Map.Views.{list_any-from_Contains, Contains-from_any}
use Rattle.std.proofs.lemmas.Map.Made.{AllPairs-from_IsDistinct}
use Rattle.std.proofs.lemmas.List.Elements.{All-push}
use Rattle.net_graph.specs.Nets.{Adds, HoldsBits, IsNet, op_width, Stands, widths_of}
use Rattle.net_graph.specs.declared.node.NetOp.{NetOp}
use Rattle.net_graph.specs.contracts.node.NetOpPartialEq.TheImpl as like
use Rattle.net_graph.specs.contracts.node.NetOpEq.TheImpl.Laws as laws
use Rattle.net_graph.proofs.OneByOne.{one_by_one-append}
use Rattle.net_graph.proofs.Standing.{AllStand-push}

abbrev pub equal : NetOp → NetOp → Bool
equal = (like.ghosts).eq

equal-Decides : (x y : NetOp) → Decides (equal x y) (x ≡ y)
equal-Decides x y = search rules

-- an operator that a look-up finds stands in the net
pub contains_from_found : (ops : List NetOp) (op : NetOp) → list_any (equal op) ops ≡ true → Contains ops op
contains_from_found ops op = Contains-from_any (λ x y. (equal-Decides x y).0) op ops

-- and one that stands there is found
pub found_from_contains : (ops : List NetOp) (op : NetOp) → Contains ops op → list_any (equal op) ops ≡ true
found_from_contains ops op = list_any-from_Contains laws.laws-law op ops

-- a net with one more operator
pub IsNet-push : (ops : List NetOp) (op : NetOp) → IsNet ops → Stands (widths_of ops) op → HoldsBits op → IsDistinct equal (ops ++ op ∷ []) → IsNet (ops ++ op ∷ [])
IsNet-push ops op net stands constant distinct = record {
  stand = AllStand-push [] ops op net.stand stands;
  constants = All-push HoldsBits ops op net.constants constant;
  distinct = AllPairs-from_IsDistinct equal-Decides (ops ++ op ∷ []) distinct;
}

pub widths_of-push : (ops : List NetOp) (op : NetOp) → widths_of (ops ++ op ∷ []) ≡ widths_of ops ++ op_width (widths_of ops) op ∷ []
widths_of-push ops op = one_by_one-append op_width [] ops (op ∷ [])

-- what a look-up and a push did: the operator has its place, and went last unless it stood there
pub Adds-insert : (old new : List NetOp) (op : NetOp) (id : ℕ) → new ≡ insert_key equal old op → (k : NetOp) × (slice_get new id ≡ Some k) × (equal op k ≡ true) → Adds old op id new
Adds-insert old new op id inserted stored = record {
  at = stored.1 ∙ ap Some (sym ((equal-Decides op stored.0).0 stored.2));
  shared = λ there. inserted ∙ ap (λ b. cond b old (old ++ op ∷ [])) (found_from_contains old op there);
  last = λ absent. inserted ∙ ap (λ b. cond b old (old ++ op ∷ [])) (not_found old op absent);
}
  where
    not_found : (ops : List NetOp) (x : NetOp) → ¬ Contains ops x → list_any (equal x) ops ≡ false
    not_found ops x absent = by (list_any (equal x) ops) refl
      where
        by : (b : Bool) → list_any (equal x) ops ≡ b → list_any (equal x) ops ≡ false
        by true e = absurd (absent (contains_from_found ops x e))
        by false e = e

-- an operator that is new goes last
pub new_last : (old new : List NetOp) (op : NetOp) (is_new : Bool) → new ≡ insert_key equal old op → is_new ≡ not (list_any (equal op) old) → is_new ≡ true → new ≡ old ++ op ∷ []
new_last old new op is_new inserted added h =
    inserted ∙ ap (λ b. cond b old (old ++ op ∷ [])) (by (list_any (equal op) old) (sym added ∙ h))
  where
    by : (b : Bool) → not b ≡ true → b ≡ false
    by true e = absurd cc
    by false e = refl
