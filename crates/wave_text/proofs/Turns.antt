-- Loops that add to a list what is left to add, a part in each turn.
use Rattle.std.proofs.Common.{◌≡◌, ℕ, ◌+◌, ◌<◌, ◌≤◌, List, [], ◌∷◌, ◌++◌, length, drop, get_or, map, append-nil, sym, ap, ap₂, ◌∙◌, append_assoc}
use Rattle.std.proofs.lemmas.List.{drop_all, drop_more}
use Rattle.stim_report.specs.declared.shape.NameWidth.{NameWidth}
use Rattle.wave_text.specs.Waves.{change_if, changes, declaration, declarations, numbered}
use Rattle.wave_text.specs.declared.level.Level.{Level}
use Rattle.wave_text.specs.declared.variable.VariableKind.{VariableKind}
use Rattle.wave_text.specs.declared.variable.Variable.{Variable}

-- the first part of what is left is added
pub turned : {X : Type 0} (whole now next left first rest : List X) → now ++ left ≡ whole → left ≡ first ++ rest → next ≡ now ++ first → next ++ rest ≡ whole
turned whole now next left first rest is parts added =
    ap (λ t. t ++ rest) added ∙ append_assoc now first rest ∙ ap (λ t. now ++ t) (sym parts) ∙ is

-- nothing is left
pub ended : {X : Type 0} (whole now left : List X) → now ++ left ≡ whole → left ≡ [] → now ≡ whole
ended whole now left is none = sym (append-nil now) ∙ ap (λ t. now ++ t) (sym none) ∙ is

-- four parts were added one after the other
pub four_parts : (t0 t1 t2 t3 t4 a b c d : List ℕ) → t1 ≡ t0 ++ a → t2 ≡ t1 ++ b → t3 ≡ t2 ++ c → t4 ≡ t3 ++ d → t4 ≡ t0 ++ (a ++ b ++ c ++ d)
four_parts t0 t1 t2 t3 t4 a b c d one two three four = rw (four, three, two, one) (simp append_assoc)

-- lines and scopes were added to nothing
pub head_parts : (t0 t1 t2 t3 t4 t5 t6 t7 t8 l1 l2 l3 s1 s2 s3 l4 l5 : List ℕ)
    → t0 ≡ [] → t1 ≡ t0 ++ l1 → t2 ≡ t1 ++ l2 → t3 ≡ t2 ++ l3 → t4 ≡ t3 ++ s1 → t5 ≡ t4 ++ s2 → t6 ≡ t5 ++ s3 → t7 ≡ t6 ++ l4 → t8 ≡ t7 ++ l5
    → t8 ≡ l1 ++ (l2 ++ (l3 ++ s1 ++ s2 ++ s3) ++ l4) ++ l5
head_parts t0 t1 t2 t3 t4 t5 t6 t7 t8 l1 l2 l3 s1 s2 s3 l4 l5 none one two three four five six seven eight =
    rw (eight, seven, six, five, four, three, two, one, none) (simp append_assoc)

-- the next variable
pub numbered_more : (kind : VariableKind) (named : List NameWidth) (i : ℕ) (one : NameWidth) → i < length named → one ≡ get_or named i one
    → numbered kind i (drop i named) ≡ (record { kind = kind; number = i; width = one.width } ∷ []) ++ numbered kind (i + 1) (drop (i + 1) named)
numbered_more kind named i one h is =
    ap (numbered kind i) (drop_more named i one h)
    ∙ ap (λ (n : NameWidth). record { kind = kind; number = i; width = n.width } ∷ numbered kind (i + 1) (drop (i + 1) named)) (sym is)

-- its declaration
pub declarations_more : (kind : VariableKind) (named : List NameWidth) (i : ℕ) (one : NameWidth) → i < length named → one ≡ get_or named i one
    → declarations kind i (drop i named) ≡ declaration (record { kind = kind; number = i; width = one.width }) one.name ++ declarations kind (i + 1) (drop (i + 1) named)
declarations_more kind named i one h is =
    ap (declarations kind i) (drop_more named i one h)
    ∙ ap (λ (n : NameWidth). declaration (record { kind = kind; number = i; width = n.width }) n.name ++ declarations kind (i + 1) (drop (i + 1) named)) (sym is)

-- its change
pub changes_more : (vs : List Variable) (before now : List Level) (i : ℕ) (v : Variable) (b n : Level) → i < length vs → i < length before → i < length now
    → v ≡ get_or vs i v → b ≡ get_or before i b → n ≡ get_or now i n
    → changes (drop i vs) (drop i before) (drop i now) ≡ change_if v b n ++ changes (drop (i + 1) vs) (drop (i + 1) before) (drop (i + 1) now)
changes_more vs before now i v b n h k j v_is b_is n_is =
    ap (λ (ws : List Variable). changes ws (drop i before) (drop i now)) (drop_more vs i v h ∙ ap (λ (w : Variable). w ∷ drop (i + 1) vs) (sym v_is))
    ∙ ap₂ (λ (bs ns : List Level). changes (v ∷ drop (i + 1) vs) bs ns) (drop_more before i b k ∙ ap (λ (w : Level). w ∷ drop (i + 1) before) (sym b_is)) (drop_more now i n j ∙ ap (λ (w : Level). w ∷ drop (i + 1) now) (sym n_is))

pub no_changes : (vs : List Variable) (before now : List Level) (i : ℕ) → length vs ≤ i → changes (drop i vs) (drop i before) (drop i now) ≡ []
no_changes vs before now i h = ap (λ (ws : List Variable). changes ws (drop i before) (drop i now)) (drop_all i vs h)

-- the value of the next item
pub map_left : {X Y : Type 0} (f : X → Y) (xs : List X) (i : ℕ) (x : X) → i < length xs → x ≡ get_or xs i x → map f (drop i xs) ≡ (f x ∷ []) ++ map f (drop (i + 1) xs)
map_left f xs i x h is = ap (map f) (drop_more xs i x h) ∙ ap (λ y. f y ∷ map f (drop (i + 1) xs)) (sym is)

pub no_map : {X Y : Type 0} (f : X → Y) (xs : List X) (i : ℕ) → length xs ≤ i → map f (drop i xs) ≡ []
no_map f xs i h = ap (map f) (drop_all i xs h)
