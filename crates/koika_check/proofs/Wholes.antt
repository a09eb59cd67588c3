-- What a whole tree comes to where its parts come to what they do.
use Rattle.std.proofs.Common.{◌≡◌, ℕ, ◌+◌, min, nat_le, Bool, true, false, List, [], length, take, Some, None, Result, Ok, Err, refl, ap, ap₂, sym, ◌∙◌, arith}
use Rattle.std.proofs.lemmas.List.{take_min}
use Rattle.kw_base.specs.Place.{column_after, line_after, place_at}
use Rattle.kw_base.specs.declared.fault_number.TheConstants.{TOO_HEAVY}
use Rattle.kw_base.specs.declared.place.Place.{Place}
use Rattle.koika_syntax.specs.declared.tree.Declaration.{Declaration}
use Rattle.koika_syntax.specs.declared.tree.Tree.{Tree}
use Rattle.kw_bits.specs.declared.host.HostSpec.{HostSpec}
use Rattle.typed_core.specs.declared.design.Node.{Node}
use Rattle.koika_check.specs.Checks.{checked, counts_within, limits, scheduled, size_within, within_limits}
use Rattle.koika_check.specs.Declarations.{declare, nothing}
use Rattle.koika_check.specs.Outcomes.{Condition, Fails, Gives, CheckResult, ◌>>=◌, earlier, holds, one_by_one, unless, wrong}
use Rattle.koika_check.specs.inner.Outcomes.{Answers, Ends, Passes, Stop}
use Rattle.koika_check.specs.Schedule.{scheduler_nodes}
use Rattle.koika_check.specs.Sizes.{Size}
use Rattle.koika_check.specs.declared.checked.Checked.{Checked}
use Rattle.koika_check.specs.declared.measure.TheConstants.{MAX_WEIGHT}
use Rattle.kw_bits.specs.declared.failure.Failure.TheVariants as failures
use Rattle.koika_check.proofs.Answering.{ends}
use Rattle.koika_check.proofs.TypedTrees.{with_nodes}

-- a call answers what a part says, and its value is made of that of the part
pub answers-bind : {X Y Z : Type 0} (f : X → Z) (z : Z) (o : CheckResult X) (r : Result Y Stop) → Answers (λ (y : Y) (x : X). z ≡ f x) o r → Answers (λ (y : Y) (w : Z). z ≡ w) (o >>= λ x. Gives (f x)) r
answers-bind f z o (Ok y) h = (f h.0, ap (λ p. p >>= λ x. Gives (f x)) h.1, h.2)
answers-bind f z o (Err e) h = ends (o >>= λ x. Gives (f x)) o (λ x. Gives (f x)) e refl h

-- the fault of a limit ends a call, which goes on where all are kept
pub limits-end : (X : Type 0) {Y : Type 0} (c c' : Condition) (y : Y) (e : Stop) → c ≡ c' → Passes {X = X} c (Err e) → Ends (unless c' y) e
limits-end X c c' y failures.NoMemory q h = tt
limits-end X None c' y (failures.Why w) q h = absurd h
limits-end X (Some f) c' y (failures.Why w) q h = ap (λ (k : Condition). unless k y) (sym q) ∙ ap Fails (sym h)

-- a tree behind its declarations, and behind its scheduler
begun : (hosts hosts' : List HostSpec) (all : List Declaration) (tree : Tree) (d : Checked) → hosts ≡ hosts' → all ≡ tree.declarations → d ≡ nothing → (one_by_one (declare hosts) all d >>= scheduled tree) ≡ checked hosts' tree
begun hosts hosts' all tree d h a n =
    ap₂ (λ (hs : List HostSpec) (ds : List Declaration). one_by_one (declare hs) ds d >>= scheduled tree) h a ∙ ap (λ (k : Checked). one_by_one (declare hosts') tree.declarations k >>= scheduled tree) n

pub declared-gives : (hosts hosts' : List HostSpec) (all : List Declaration) (tree : Tree) (d d' : Checked) → hosts ≡ hosts' → all ≡ tree.declarations → d ≡ nothing → one_by_one (declare hosts) all d ≡ Gives d' → checked hosts' tree ≡ scheduled tree d'
declared-gives hosts hosts' all tree d d' h a n e = sym (begun hosts hosts' all tree d h a n) ∙ ap (λ o. o >>= scheduled tree) e

pub declared-ends : (hosts hosts' : List HostSpec) (all : List Declaration) (tree : Tree) (d : Checked) (e : Stop) → hosts ≡ hosts' → all ≡ tree.declarations → d ≡ nothing → Ends (one_by_one (declare hosts) all d) e → Ends (checked hosts' tree) e
declared-ends hosts hosts' all tree d e h a n end = ends (checked hosts' tree) (one_by_one (declare hosts) all d) (scheduled tree) e (sym (begun hosts hosts' all tree d h a n)) end

pub scheduled-gives : (tree : Tree) (d d' : Checked) (nodes nodes' : List Node) → d' ≡ d → scheduler_nodes tree.scheduler d' [] 0 ≡ Gives nodes → nodes' ≡ nodes → scheduled tree d ≡ within_limits tree (with_nodes d' nodes')
scheduled-gives tree d d' nodes nodes' e f n =
    ap (scheduled tree) (sym e) ∙ ap (λ o. o >>= λ ns. within_limits tree (with_nodes d' ns)) f ∙ ap (λ ns. within_limits tree (with_nodes d' ns)) (sym n)

pub scheduled-ends : (tree : Tree) (d d' : Checked) (e : Stop) → d' ≡ d → Ends (scheduler_nodes tree.scheduler d' [] 0) e → Ends (scheduled tree d) e
scheduled-ends tree d d' e q end =
    ends (scheduled tree d) (scheduler_nodes tree.scheduler d' [] 0) (λ ns. within_limits tree (with_nodes d' ns)) e (ap (scheduled tree) (sym q)) end

-- the weight of a design within the limits is counted as it is
pub weight-within : (tree : Tree) (s : Size) → limits tree s ≡ None → min s.weight (MAX_WEIGHT + 1) ≡ s.weight
weight-within tree s e = by_test (nat_le s.weight MAX_WEIGHT) refl (first_holds _ _ (second_of (counts_within tree) (size_within tree.schedule s) e))
  where
    second_of : (a b : Condition) → earlier a b ≡ None → b ≡ None
    second_of None b e = e
    second_of (Some w) b e = absurd cc

    first_holds : (a b : Condition) → earlier a b ≡ None → a ≡ None
    first_holds None b e = refl
    first_holds (Some w) b e = absurd cc

    by_test : (t : Bool) → nat_le s.weight MAX_WEIGHT ≡ t → holds (nat_le s.weight MAX_WEIGHT) (wrong TOO_HEAVY tree.schedule) ≡ None → min s.weight (MAX_WEIGHT + 1) ≡ s.weight
    by_test true t h = grind arith
    by_test false t h = absurd (no (sym (ap (λ b. holds b (wrong TOO_HEAVY tree.schedule)) t) ∙ h))
      where
        no : ◌≡◌ {A = Condition} (Some (wrong TOO_HEAVY tree.schedule)) None → ⊥
        no e = cc

-- what lies past a text is its end
pub place-past : (text : List ℕ) (offset within : ℕ) → within ≡ min offset (length text) → place_at text within ≡ place_at text offset
unfolding place_at
place-past text offset within e = ap place_behind (ap (λ (n : ℕ). take n text) e ∙ take_min offset text)
  where
    place_behind : List ℕ → Place
    place_behind front = record { line = line_after front; column = column_after front }
