-- Words of nodes as bit vectors: what one operator after another makes.
use Rattle.std.proofs.Common.{◌≡◌, ℕ, zero, suc, ◌+◌, ◌*◌, ◌<◌, ◌≤◌, Bool, true, false, eqb, List, [], ◌∷◌, ◌++◌, length, take, get_or, refl, sym, ap, ap₂, subst, ◌∙◌, arith}
use Rattle.std.specs.Prelude.{if◌then◌else◌}
use Rattle.std.specs.List.{All}
use Rattle.std.proofs.lemmas.List.{get_or-map, get_or_default, length-map, map_push, take_all}
use Rattle.std.proofs.lemmas.List.Elements.{All-map, All-push}
use Rattle.kw_bits.specs.BitVector.{BitVector, IsBits}
use Rattle.kw_bits.specs.Operators as op
use Rattle.net_graph.specs.Laws.{Feeds}
use Rattle.net_graph.specs.Nets.{HoldsBits, IsNet, Stands, width_at}
use Rattle.net_graph.specs.Operators.{ite_value, sext_value, uext_value}
use Rattle.net_graph.specs.Values.{AllRead, no_bits, op_value, Reads, Sources, value_at, values_of, widths}
use Rattle.net_graph.specs.declared.node.NetOp.{NetOp}
use Rattle.net_graph.proofs.OneByOne.{length-one_by_one, take_more-one_by_one}
use Rattle.net_graph.proofs.OperatorWidths.{op_value-HasWidth}
use Rattle.net_graph.proofs.Values.{stands_over}
use Rattle.aig_blast.specs.BitLists.{as_bits, bit}
use Rattle.aig_blast.specs.Graphs.{value, Gates, Keeps}
use Rattle.aig_blast.specs.inner.Nodes.{AreWords, IsWord, lengths, MakesNodes, sources_of, words_bits, word_at}
use Rattle.aig_blast.specs.Words.{AreLits, bits, word, MakesBits}
use Rattle.aig_blast.proofs.Making.{AreLits-kept, width, word-kept}
use Rattle.aig_blast.proofs.Numbers.{number-lt}
use Rattle.aig_blast.proofs.Values.{Keeps-refl, Keeps-trans}

-- a word is as wide as its value
pub MakesBits-width : {old new : Gates} {lits : List ℕ} {f : List Bool → BitVector} → MakesBits old new lits f → length lits ≡ (f []).width
MakesBits-width {old} {new} {lits} m = sym (length-map lits (value [] new)) ∙ ap (λ (b : BitVector). b.width) (m.has_bits [])

-- the values of a word after more gates, and through an operator
pub MakesBits-by : {old mid new : Gates} {a lits : List ℕ} {f : List Bool → BitVector} (op : BitVector → BitVector) → MakesBits old mid a f → MakesBits mid new lits (λ i. op (bits i mid a)) → MakesBits old new lits (λ i. op (f i))
MakesBits-by {old} {mid} {new} op x m = record {
  keeps = Keeps-trans old mid new x.keeps m.keeps;
  are_lits = m.are_lits;
  has_bits = λ i. m.has_bits i ∙ ap op (x.has_bits i);
}

pub MakesBits-by2 : {old mid new : Gates} {a b lits : List ℕ} {f g : List Bool → BitVector} (op : BitVector → BitVector → BitVector) → MakesBits old mid a f → MakesBits old mid b g → MakesBits mid new lits (λ i. op (bits i mid a) (bits i mid b)) → MakesBits old new lits (λ i. op (f i) (g i))
MakesBits-by2 {old} {mid} {new} op x y m = record {
  keeps = Keeps-trans old mid new x.keeps m.keeps;
  are_lits = m.are_lits;
  has_bits = λ i. m.has_bits i ∙ ap₂ op (x.has_bits i) (y.has_bits i);
}

-- a word that stood before
pub MakesBits-given : {old new : Gates} (lits : List ℕ) → Keeps old new → AreLits old lits → MakesBits old new lits (λ i. bits i old lits)
MakesBits-given {old} {new} lits keeps are = record {
  keeps = keeps;
  are_lits = AreLits-kept old new lits keeps are;
  has_bits = λ i. ap as_bits (word-kept i old new lits keeps are);
}

-- the same bit vector, otherwise written, and the same literals
pub MakesBits-as : {old new : Gates} {lits : List ℕ} {f : List Bool → BitVector} (g : List Bool → BitVector) → ((i : List Bool) → f i ≡ g i) → MakesBits old new lits f → MakesBits old new lits g
MakesBits-as g same m = record { keeps = m.keeps; are_lits = m.are_lits; has_bits = λ i. m.has_bits i ∙ same i }

pub MakesBits-at : {old new : Gates} {lits same : List ℕ} {f : List Bool → BitVector} → same ≡ lits → MakesBits old new lits f → MakesBits old new same f
MakesBits-at {old} {new} {lits} {same} {f} is m = subst (λ ls. MakesBits old new ls f) (sym is) m

-- ---- the values of words

-- the word of a node has the node's value
pub bits-word_at : (i : List Bool) (g : Gates) (words : List (List ℕ)) (id : ℕ) → id < length words → value_at (words_bits i g words) id ≡ bits i g (word_at words id)
bits-word_at i g words id within = get_or-map (bits i g) words id [] no_bits within

pub widths-words_bits : (i : List Bool) (g : Gates) (words : List (List ℕ)) → widths (words_bits i g words) ≡ lengths words
widths-words_bits i g [] = refl
widths-words_bits i g (word ∷ words) = ap₂ (λ (n : ℕ) (ns : List ℕ). n ∷ ns) (width i g word) (widths-words_bits i g words)

pub length-word_at : (words : List (List ℕ)) (id : ℕ) → width_at (lengths words) id ≡ length (word_at words id)
length-word_at [] id = refl
length-word_at (word ∷ words) zero = refl
length-word_at (word ∷ words) (suc id) = length-word_at words id

-- the value of a word is a bit vector
pub IsBits-bits : (i : List Bool) (g : Gates) (lits : List ℕ) → IsWord g lits → IsBits (bits i g lits)
IsBits-bits i g lits is =
    let wide : length (word i g lits) ≡ length lits = width i g lits in
    record { some_bit = omega (arith, is.some); no_wider = omega (arith, is.most); in_range = number-lt (word i g lits) }

pub AreBits-words : (i : List Bool) (g : Gates) (words : List (List ℕ)) → AreWords g words → All IsBits (words_bits i g words)
AreBits-words i g words are = All-map IsBits (bits i g) words (λ k d h. IsBits-bits i g (get_or words k d) (are k d h))

-- ---- after more gates

pub IsWord-kept : (old new : Gates) (lits : List ℕ) → Keeps old new → IsWord old lits → IsWord new lits
IsWord-kept old new lits keeps is = record { some = is.some; most = is.most; are_lits = AreLits-kept old new lits keeps is.are_lits }

pub AreWords-kept : (old new : Gates) (words : List (List ℕ)) → Keeps old new → AreWords old words → AreWords new words
AreWords-kept old new words keeps are k d h = IsWord-kept old new (get_or words k d) keeps (are k d h)

pub words_bits-kept : (i : List Bool) (old new : Gates) (words : List (List ℕ)) → Keeps old new → AreWords old words → words_bits i new words ≡ words_bits i old words
words_bits-kept i old new [] keeps are = refl
words_bits-kept i old new (lits ∷ words) keeps are =
    ap₂ (λ (b : BitVector) (bs : List BitVector). b ∷ bs) (ap as_bits (word-kept i old new lits keeps (are 0 lits (omega arith)).are_lits))
    (words_bits-kept i old new words keeps (λ k d h. are (suc k) d (omega arith)))

sources_of-kept : (i : List Bool) (old new : Gates) (inputs states : List (List ℕ)) → Keeps old new → AreWords old inputs → AreWords old states → sources_of i new inputs states ≡ sources_of i old inputs states
sources_of-kept i old new inputs states keeps ins sts =
    ap₂ (λ (x y : List BitVector). record { inputs = x; states = y }) (words_bits-kept i old new inputs keeps ins) (words_bits-kept i old new states keeps sts)

-- ---- node by node

pub MakesNodes-none : (g : Gates) (inputs states : List (List ℕ)) (values : Sources → List BitVector) → ((s : Sources) → [] ≡ values s) → MakesNodes g g inputs states [] values
MakesNodes-none g inputs states values none = record { keeps = Keeps-refl g; are_words = λ k d h. absurd (omega arith); have_values = λ i. none (sources_of i g inputs states) }

-- the net reads what the words of sources have
pub feeds : (i : List Bool) (g : Gates) (inputs states : List (List ℕ)) (net : List NetOp) → AreWords g inputs → AreWords g states → AllRead (lengths inputs) (lengths states) net → Feeds (sources_of i g inputs states) net
feeds i g inputs states net ins sts reads = record {
  inputs = AreBits-words i g inputs ins;
  states = AreBits-words i g states sts;
  reads = subst (λ (ws : List ℕ). AllRead ws (widths (words_bits i g states)) net) (sym (widths-words_bits i g inputs)) (subst (λ (ws : List ℕ). AllRead (lengths inputs) ws net) (sym (widths-words_bits i g states)) reads);
}

-- the next node stands over the words so far
pub stands-next : (old mid : Gates) (inputs states words : List (List ℕ)) (net : List NetOp) (k : ℕ) (op d : NetOp) → IsNet net → AreWords old inputs → AreWords old states → AllRead (lengths inputs) (lengths states) net
    → MakesNodes old mid inputs states words (λ s. take k (values_of s net)) → k < length net → get_or net k d ≡ op → Stands (lengths words) op
stands-next old mid inputs states words net k op d is ins sts reads made within here =
    let s : Sources = sources_of [] old inputs states in
    let wide : widths (take k (values_of s net)) ≡ lengths words = ap widths (sym (made.have_values [])) ∙ widths-words_bits [] mid words in
    subst (λ (ws : List ℕ). Stands ws op) wide (subst (λ (o : NetOp). Stands (widths (take k (values_of s net))) o) here (stands_over s net k d within is (feeds [] old inputs states net ins sts reads)))

-- the word of one more node
pub MakesNodes-push : (old mid new : Gates) (inputs states words : List (List ℕ)) (lits : List ℕ) (net : List NetOp) (k : ℕ) (op d : NetOp) → IsNet net → AreWords old inputs → AreWords old states → AllRead (lengths inputs) (lengths states) net
    → MakesNodes old mid inputs states words (λ s. take k (values_of s net)) → k < length net → get_or net k d ≡ op
    → MakesBits mid new lits (λ i. op_value (sources_of i mid inputs states) (words_bits i mid words) op)
    → MakesNodes old new inputs states (words ++ lits ∷ []) (λ s. take (k + 1) (values_of s net))
MakesNodes-push old mid new inputs states words lits net k op d is ins sts reads made within here m =
    let stands = stands-next old mid inputs states words net k op d is ins sts reads made within here in
    let now = AreWords-kept old mid inputs made.keeps ins in
    let later = AreWords-kept old mid states made.keeps sts in
    let value : BitVector = op_value (sources_of [] mid inputs states) (words_bits [] mid words) op in
    let fed = feeds [] mid inputs states net now later reads in
    let fits : IsBits value = (op_value-HasWidth (sources_of [] mid inputs states) (words_bits [] mid words) op fed.inputs fed.states (AreBits-words [] mid words made.are_words)
    (subst (λ (ws : List ℕ). Stands ws op) (sym (widths-words_bits [] mid words)) stands)
    (subst (λ (o : NetOp). Reads (widths (words_bits [] mid inputs)) (widths (words_bits [] mid states)) o) here (fed.reads k d within))
    (subst HoldsBits here (is.constants k d within))).0 in
    let wide : length lits ≡ value.width = MakesBits-width m in
    record {
      keeps = Keeps-trans old mid new made.keeps m.keeps;
      are_words = All-push (IsWord new) words lits (AreWords-kept mid new words m.keeps made.are_words) (record { some = omega (arith, fits.some_bit); most = omega (arith, fits.no_wider); are_lits = m.are_lits });
      have_values = λ i.
          let s : Sources = sources_of i old inputs states in
          let before : List BitVector = take k (values_of s net) in
          map_push (bits i new) words lits
          ∙ ap₂ (λ (bs : List BitVector) (b : BitVector). bs ++ b ∷ [])
          (words_bits-kept i mid new words m.keeps made.are_words ∙ made.have_values i)
          (m.has_bits i ∙ ap₂ (λ (x : Sources) (ys : List BitVector). op_value x ys op) (sources_of-kept i old mid inputs states made.keeps ins sts) (made.have_values i) ∙ ap (op_value s before) (sym here))
          ∙ sym (take_more-one_by_one (op_value s) net k d within);
    }

-- the same values, otherwise written
pub MakesNodes-as : (old new : Gates) (inputs states words : List (List ℕ)) (f g : Sources → List BitVector) → ((s : Sources) → f s ≡ g s) → MakesNodes old new inputs states words f → MakesNodes old new inputs states words g
MakesNodes-as old new inputs states words f g same m = record { keeps = m.keeps; are_words = m.are_words; have_values = λ i. m.have_values i ∙ same (sources_of i old inputs states) }

pub MakesNodes-at : {old new : Gates} {inputs states words same : List (List ℕ)} {f : Sources → List BitVector} → same ≡ words → MakesNodes old new inputs states words f → MakesNodes old new inputs states same f
MakesNodes-at {old} {new} {inputs} {states} {words} {same} {f} is m = subst (λ (ws : List (List ℕ)). MakesNodes old new inputs states ws f) (sym is) m

-- all nodes have their words
pub MakesNodes-all : (old new : Gates) (inputs states words : List (List ℕ)) (net : List NetOp) (k : ℕ) → length net ≤ k → MakesNodes old new inputs states words (λ s. take k (values_of s net)) → MakesNodes old new inputs states words (λ s. values_of s net)
MakesNodes-all old new inputs states words net k over m =
    MakesNodes-as old new inputs states words (λ s. take k (values_of s net)) (λ s. values_of s net) (λ s. take_all k (values_of s net) (omega (arith, length-one_by_one (op_value s) [] net))) m

-- ---- operators whose result has another width than the operand

pub uext-at : (i : List Bool) (g : Gates) (words : List (List ℕ)) (a added : ℕ) (lits : List ℕ) → a < length words → lits ≡ word_at words a → op.zext (bits i g lits) (length lits + added) ≡ uext_value (value_at (words_bits i g words) a) added
unfolding uext_value
uext-at i g words a added lits within is =
    ap (λ n. op.zext (bits i g lits) (n + added)) (sym (width i g lits)) ∙ ap (λ (b : BitVector). op.zext b (b.width + added)) (ap (bits i g) is ∙ sym (bits-word_at i g words a within))

pub sext-at : (i : List Bool) (g : Gates) (words : List (List ℕ)) (a added : ℕ) (lits : List ℕ) → a < length words → lits ≡ word_at words a → op.sext (bits i g lits) (length lits + added) ≡ sext_value (value_at (words_bits i g words) a) added
unfolding sext_value
sext-at i g words a added lits within is =
    ap (λ n. op.sext (bits i g lits) (n + added)) (sym (width i g lits)) ∙ ap (λ (b : BitVector). op.sext b (b.width + added)) (ap (bits i g) is ∙ sym (bits-word_at i g words a within))

one_bit : (b : Bool) → eqb (bit b + 2 * 0) 1 ≡ b
one_bit true = refl
one_bit false = refl

-- a condition is the value of its one literal
condition-value : (i : List Bool) (g : Gates) (lits : List ℕ) → length lits ≡ 1 → value i g (get_or lits 0 0) ≡ eqb (bits i g lits).number 1
condition-value i g [] one = absurd (omega arith)
condition-value i g (lit ∷ []) one = sym (one_bit (value i g lit))
condition-value i g (lit ∷ next ∷ rest) one = absurd (omega arith)

pub ite-at : (i : List Bool) (g : Gates) (words : List (List ℕ)) (c a b : ℕ) (condition first second : List ℕ) → c < length words → a < length words → b < length words → length condition ≡ 1
    → condition ≡ word_at words c → first ≡ word_at words a → second ≡ word_at words b
    → (if value i g (get_or condition 0 0) then bits i g first else bits i g second) ≡ ite_value (value_at (words_bits i g words) c) (value_at (words_bits i g words) a) (value_at (words_bits i g words) b)
unfolding ite_value
ite-at i g words c a b condition first second wc wa wb one is_c is_a is_b =
    ap (λ t. if t then bits i g first else bits i g second) (condition-value i g condition one ∙ ap (λ (v : BitVector). eqb v.number 1) (ap (bits i g) is_c ∙ sym (bits-word_at i g words c wc)))
    ∙ ap₂ (λ (x y : BitVector). if eqb (value_at (words_bits i g words) c).number 1 then x else y) (ap (bits i g) is_a ∙ sym (bits-word_at i g words a wa)) (ap (bits i g) is_b ∙ sym (bits-word_at i g words b wb))

-- an index into words, by another default
pub word-item : (words : List (List ℕ)) (id : ℕ) (lits item : List ℕ) → id < length words → lits ≡ item → item ≡ get_or words id item → lits ≡ word_at words id
word-item words id lits item within same is = same ∙ is ∙ get_or_default words id item [] within
