-- What several reads took together, and several writes wrote.
use Rattle.std.proofs.Common.{◌≡◌, ℕ, ◌+◌, ◌-◌, ◌<◌, ◌≤◌, List, [], ◌∷◌, ◌++◌, length, take, drop, None, Some, IfSome, OnSome, append_assoc, ◌↔◌, sym, ap, subst, ◌∙◌, append-nil, arith, length-append}
use Rattle.std.proofs.Math.Seq.{take-add}
use Rattle.std.proofs.lemmas.List.{take_rest}
use Rattle.std.proofs.KnownBytes.{Appends-trans, Consumes-trans}
use Rattle.std.specs.Io.KnownBytes.{Appends, Consumes, IsAtEnd}
use Rattle.std.specs.declared.option.Option.{Option}
use Rattle.kw_io.specs.Portions.{TakesAll, TakesUpTo}

-- a list that stands before another and leaves an empty one with it is empty, and so is the other
append-empty : (xs ys : List ℕ) → xs ++ ys ≡ [] → ys ≡ []
append-empty [] ys e = e
append-empty (x ∷ xs) ys e = cc

-- what was taken in two parts, with no byte behind them, is all
pub TakesAll-from_end : (old mid new : Option (List ℕ)) (front rest : List ℕ) → Consumes old mid front → Consumes mid new rest → OnSome mid (IsAtEnd new) → TakesAll old new (front ++ rest)
TakesAll-from_end None mid new front rest first second end = tt
TakesAll-from_end (Some all) None new front rest first second end = absurd first
TakesAll-from_end (Some all) (Some behind) None front rest first second end = absurd second
TakesAll-from_end (Some all) (Some behind) (Some last) front rest first second end =
    let none : front ++ rest ++ last ≡ front ++ rest = ap (λ xs. front ++ rest ++ xs) end ∙ append-nil (front ++ rest) in
    (first ∙ ap (λ xs. front ++ xs) second ∙ sym (append_assoc front rest last) ∙ none, ap Some end)

-- a read that takes nothing because nothing is left leaves nothing
pub OnSome-from_none_left : (old new : Option (List ℕ)) (bytes : List ℕ) (P : Type 0) → Consumes old new bytes → IfSome old (λ all. P ↔ (all ≡ [])) → P → OnSome old (IsAtEnd new)
OnSome-from_none_left None new bytes P taken end none = tt
OnSome-from_none_left (Some all) None bytes P taken end none = absurd taken
OnSome-from_none_left (Some all) (Some rest) bytes P taken end none = append-empty bytes rest (sym taken ∙ end.0 none)

-- where too many are taken behind a front, they are too many with it
pub TakesUpTo-behind : {P Q : Type 0} (old mid new : Option (List ℕ)) (front : List ℕ) (limit : ℕ) → length front ≤ limit → Consumes old mid front → (Q ↔ P) → TakesUpTo mid new (limit - length front) P → TakesUpTo old new limit Q
TakesUpTo-behind old mid new front limit within first same second =
    let joined = length-append front second.front in
    record {
      front = front ++ second.front;
      taken = Consumes-trans old mid new front second.front first second.taken;
      no_more = let e = second.no_more in omega arith;
      exact = (λ q. let e = second.exact.0 (same.0 q) in omega arith, λ long. same.1 (second.exact.1 (omega arith)));
    }

-- at least as many bytes were left as were taken
pub length_left : (old new : Option (List ℕ)) (bytes : List ℕ) (limit : ℕ) → Consumes old new bytes → limit < length bytes → IfSome old (λ all. limit < length all)
length_left None new bytes limit taken long = tt
length_left (Some all) None bytes limit taken long = absurd taken
length_left (Some all) (Some rest) bytes limit taken long =
    let joined = ap length taken ∙ length-append bytes rest in
    omega arith

-- what is written of the rest of a list, behind its first bytes, makes more of its first bytes
pub appends_next : (old mid new : Option (List ℕ)) (bytes : List ℕ) (n more : ℕ) → Appends old mid (take n bytes) → Appends mid new (take more (take (length bytes - n) (drop n bytes))) → Appends old new (take (n + more) bytes)
appends_next old mid new bytes n more first second =
    let joined : take n bytes ++ take more (take (length bytes - n) (drop n bytes)) ≡ take (n + more) bytes =
    ap (λ rest. take n bytes ++ take more rest) (take_rest bytes n) ∙ sym (take-add n more bytes) in
    subst (Appends old new) joined (Appends-trans old mid new _ _ first second)
