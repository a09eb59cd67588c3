-- What is found in valid words is what they give, in whatever order their options stand: the reader goes from one option to the
-- next, and behind each it has found what was given so far.
use Rattle.std.proofs.Common.{◌≡◌, ◌∙◌, ℕ, ◌==◌, ◌&&◌, Bool, true, false, cond, List, [], ◌∷◌, ◌++◌, take, drop, length, Option, Some, None, is_some, refl, sym, ap, ap₂, subst, codes, nat_le, true≢false, append-nil}
use Rattle.std.specs.Prelude.{if◌then◌else◌, find, fold, option_and_then, option_map, slice_get, unwrap_or}
use Rattle.std.specs.Option.{option_or}
use Rattle.std.specs.Str.{bytes_eq}
use Rattle.std.proofs.lemmas.Bool.{eqb-true}
use Rattle.std.proofs.lemmas.List.{take-append-drop}
use Rattle.std.proofs.lemmas.List.Folds.{find-append}
use Rattle.std.proofs.lemmas.Option.{none-some}
use Rattle.std.proofs.lemmas.Slice.Eq.{bytes_eq-Decides}
use Rattle.clap.specs.Walk.{Held, Row, Rule, Text, Walk, at_row, finished, has_row, idle, more_values, nothing_held, one_of, reading_by, rule_of, row_text, settled_rows, walk, walk_from, walked, with_default, with_values, without}
use Rattle.clap.specs.Simple.{Shape, app_of, built, filled, is_simple, matches_of, with_rule}
use Rattle.clap.specs.Built.{AddsArg}
use Rattle.clap.specs.declared.builder.arg.Arg.{Arg}
use Rattle.clap.specs.declared.builder.command.Command.{Command}
use Rattle.clap.specs.declared.parser.matches.ValueSource.{ValueSource}
use Rattle.clap.specs.declared.parser.matches.ValueSource.TheVariants.{CommandLine, DefaultValue}
use Rattle.clap.specs.declared.builder.value_parser.Reading.{Reading}
use Rattle.clap.specs.Takes.{settle_passes, takes, turn_passes, walk_passes}
use Rattle.clap.proofs.OnLiterals.{clap_on_literals}
use Rattle.front_end.specs.Given.{bare, flag_text}
use Rattle.front_end.specs.GivenOnce.{asked_flag, given_once}
use Rattle.front_end.proofs.GivenValues.{IsPlain, both-true, first_as, flag-none, none-there, number-plain, once-is, some_is}
use Rattle.front_end.proofs.FoundRows.{Known, found-other, found-own, has-found, none-used, or-none, row_for, row_of_id, used_by, with_given, with_row-is}
use Rattle.front_end.specs.NumberWords.{number_of_word, value_of}
use Rattle.lab_top.specs.Words.{name_of, no_options, options_of, with_cycle, with_cycles, with_rule as with_named, with_strict, with_word}
use Rattle.lab_top.specs.inner.Given.{Give, cycle_rule, cycles_rule, name_rule, options_app, strict_rule}
use Rattle.lab_top.specs.declared.words.Options.{Options}

-- ---- words, as options one after another

-- the options that have a value
data Key : Type 0 where
  of_cycle : Key
  of_cycles : Key
  of_name : Key

abbrev flag_word : Key → Text
flag_word of_cycle = codes "--cycle"
flag_word of_cycles = codes "--cycles"
flag_word of_name = codes "--rule"

abbrev front_word : Key → Text
front_word of_cycle = codes "--cycle="
front_word of_cycles = codes "--cycles="
front_word of_name = codes "--rule="

abbrev front_length : Key → ℕ
front_length of_cycle = 8
front_length of_cycles = 9
front_length of_name = 7

-- the options without a value
data Flag : Type 0 where
  of_strict : Flag

abbrev own_word : Flag → Text
own_word of_strict = codes "--strict"

-- an option and its value, an option with its value behind `=`, and an option without a value
data Step : Type 0 where
  next : Key → Text → Step
  equals : Key → Text → Step
  alone : Flag → Step

abbrev words_of : List Step → List Text
words_of [] = []
words_of (next key v ∷ steps) = flag_word key ∷ v ∷ words_of steps
words_of (equals key v ∷ steps) = (front_word key ++ v) ∷ words_of steps
words_of (alone f ∷ steps) = own_word f ∷ words_of steps

record PutsCycle (v : Text) (rest o : Options) : Type 0 where
  n : ℕ
  number : number_of_word v ≡ Some n
  fresh : rest.cycle ≡ None
  cycle : o.cycle ≡ Some n
  cycles : o.cycles ≡ rest.cycles
  rule : o.rule ≡ rest.rule
  strict : o.is_strict ≡ rest.is_strict

record PutsCycles (v : Text) (rest o : Options) : Type 0 where
  n : ℕ
  number : number_of_word v ≡ Some n
  fresh : rest.cycles ≡ None
  cycle : o.cycle ≡ rest.cycle
  cycles : o.cycles ≡ Some n
  rule : o.rule ≡ rest.rule
  strict : o.is_strict ≡ rest.is_strict

record PutsName (v : Text) (rest o : Options) : Type 0 where
  name : List ℕ
  named : name_of v ≡ Some name
  fresh : rest.rule ≡ None
  cycle : o.cycle ≡ rest.cycle
  cycles : o.cycles ≡ rest.cycles
  rule : o.rule ≡ Some name
  strict : o.is_strict ≡ rest.is_strict

abbrev Puts : Key → Text → Options → Options → Type 0
Puts of_cycle v rest o = PutsCycle v rest o
Puts of_cycles v rest o = PutsCycles v rest o
Puts of_name v rest o = PutsName v rest o

record IsStrict (rest o : Options) : Type 0 where
  fresh : rest.is_strict ≡ false
  cycle : o.cycle ≡ rest.cycle
  cycles : o.cycles ≡ rest.cycles
  rule : o.rule ≡ rest.rule
  strict : o.is_strict ≡ true

abbrev Sets : Flag → Options → Options → Type 0
Sets of_strict rest o = IsStrict rest o

-- steps give options
abbrev Gives : List Step → Options → Type 0
Gives [] o = o ≡ no_options
Gives (next key v ∷ steps) o = (rest : Options) × Gives steps rest × Puts key v rest o
Gives (equals key v ∷ steps) o = (rest : Options) × Gives steps rest × Puts key v rest o
Gives (alone f ∷ steps) o = (rest : Options) × Gives steps rest × Sets f rest o

-- options with one more, if they are valid
abbrev with_key : Key → Text → Option Options → Option Options
with_key of_cycle v others = with_cycle v others
with_key of_cycles v others = with_cycles v others
with_key of_name v others = with_named v others

with_key-is : (key : Key) (v : Text) (others : Option Options) (o : Options) → with_key key v others ≡ Some o → (rest : Options) × (others ≡ Some rest) × Puts key v rest o
with_key-is of_cycle v None o e = absurd (none-some o e)
with_key-is of_cycle v (Some rest) o e =
    let found = once-is rest.cycle (λ n. record rest { cycle = Some n }) (number_of_word v) o e in
    let put = sym found.3 in (
      rest,
      refl,
      record { n = found.0; number = found.2; fresh = found.1; cycle = ap (λ (p : Options). p.cycle) put; cycles = ap (λ (p : Options). p.cycles) put; rule = ap (λ (p : Options). p.rule) put; strict = ap (λ (p : Options). p.is_strict) put },
    )
with_key-is of_cycles v None o e = absurd (none-some o e)
with_key-is of_cycles v (Some rest) o e =
    let found = once-is rest.cycles (λ n. record rest { cycles = Some n }) (number_of_word v) o e in
    let put = sym found.3 in (
      rest,
      refl,
      record { n = found.0; number = found.2; fresh = found.1; cycle = ap (λ (p : Options). p.cycle) put; cycles = ap (λ (p : Options). p.cycles) put; rule = ap (λ (p : Options). p.rule) put; strict = ap (λ (p : Options). p.is_strict) put },
    )
with_key-is of_name v None o e = absurd (none-some o e)
with_key-is of_name v (Some rest) o e =
    let found = once-is rest.rule (λ name. record rest { rule = Some name }) (name_of v) o e in
    let put = sym found.3 in (
      rest,
      refl,
      record { name = found.0; named = found.2; fresh = found.1; cycle = ap (λ (p : Options). p.cycle) put; cycles = ap (λ (p : Options). p.cycles) put; rule = ap (λ (p : Options). p.rule) put; strict = ap (λ (p : Options). p.is_strict) put },
    )

with_strict-is : (others : Option Options) (o : Options) → with_strict others ≡ Some o → (rest : Options) × (others ≡ Some rest) × IsStrict rest o
with_strict-is None o e = absurd (none-some o e)
with_strict-is (Some rest) o e =
    let found = once-is (asked_flag rest.is_strict) (λ strict. record rest { is_strict = strict }) (Some true) o e in
    let put = sym found.3 in (
      rest,
      refl,
      record {
        fresh = flag-none rest.is_strict found.1;
        cycle = ap (λ (p : Options). p.cycle) put;
        cycles = ap (λ (p : Options). p.cycles) put;
        rule = ap (λ (p : Options). p.rule) put;
        strict = ap (λ (p : Options). p.is_strict) put ∙ sym (some_is _ _ found.2);
      },
    )

abbrev with_flag : Flag → Option Options → Option Options
with_flag of_strict others = with_strict others

with_flag-is : (f : Flag) (others : Option Options) (o : Options) → with_flag f others ≡ Some o → (rest : Options) × (others ≡ Some rest) × Sets f rest o
with_flag-is of_strict others o e = with_strict-is others o e

abbrev Found : List Text → Options → Type 0
Found words o = (steps : List Step) × (words ≡ words_of steps) × Gives steps o

module _ (word : Text) (words : List Text) (o : Options) (later : (rest : Options) → options_of words ≡ Some rest → Found words rest) where
  -- a word that is an option with its value
  equals-is : (key : Key) → bytes_eq (take (front_length key) word) (front_word key) ≡ true → with_key key (drop (front_length key) word) (options_of words) ≡ Some o → Found (word ∷ words) o
  equals-is key begins e =
      let n = front_length key in
      let front : front_word key ++ drop n word ≡ take n word ++ drop n word = ap (λ front. front ++ drop n word) (sym ((bytes_eq-Decides (take n word) (front_word key)).0 begins)) in
      let put = with_key-is key (drop n word) (options_of words) o e in
      let found = later put.0 put.1 in
      (equals key (drop n word) ∷ found.0, ap₂ (λ w ws. w ∷ ws) (sym (front ∙ take-append-drop n word)) found.1, (put.0, found.2, put.2))

  flag-is : (f : Flag) → bytes_eq word (own_word f) ≡ true → with_flag f (options_of words) ≡ Some o → Found (word ∷ words) o
  flag-is f is e =
      let put = with_flag-is f (options_of words) o e in
      let found = later put.0 put.1 in
      (alone f ∷ found.0, ap₂ (λ w ws. w ∷ ws) ((bytes_eq-Decides word (own_word f)).0 is) found.1, (put.0, found.2, put.2))

  with_word-is : with_word word (options_of words) ≡ Some o → Found (word ∷ words) o
  with_word-is e = go (bytes_eq word (codes "--strict")) (bytes_eq (take 8 word) (codes "--cycle=")) (bytes_eq (take 9 word) (codes "--cycles=")) (bytes_eq (take 7 word) (codes "--rule=")) refl refl refl refl e
    where
      go : (a b c d : Bool) → bytes_eq word (codes "--strict") ≡ a → bytes_eq (take 8 word) (codes "--cycle=") ≡ b → bytes_eq (take 9 word) (codes "--cycles=") ≡ c → bytes_eq (take 7 word) (codes "--rule=") ≡ d
          → (if a then with_strict (options_of words) else if b then with_cycle (drop 8 word) (options_of words) else if c then with_cycles (drop 9 word) (options_of words) else if d then with_named (drop 7 word) (options_of words) else None) ≡ Some o
          → Found (word ∷ words) o
      go true b c d is first second third e = flag-is of_strict is e
      go false true c d is first second third e = equals-is of_cycle first e
      go false false true d is first second third e = equals-is of_cycles second e
      go false false false true is first second third e = equals-is of_name third e
      go false false false false is first second third e = absurd (none-some o e)

module _ (word value : Text) (words : List Text) (o : Options) (later : (rest : Options) → options_of words ≡ Some rest → Found words rest) where
  -- a word that is an option, and its value behind it
  next-is : (key : Key) → word ≡ flag_word key → with_key key value (options_of words) ≡ Some o → Found (word ∷ value ∷ words) o
  next-is key is e =
      let put = with_key-is key value (options_of words) o e in
      let found = later put.0 put.1 in
      (next key value ∷ found.0, ap₂ (λ w ws. w ∷ value ∷ ws) is found.1, (put.0, found.2, put.2))

  with_first-is : ((rest : Options) → options_of (value ∷ words) ≡ Some rest → Found (value ∷ words) rest) → options_of (word ∷ value ∷ words) ≡ Some o → Found (word ∷ value ∷ words) o
  with_first-is behind e = go (bytes_eq word (codes "--cycle")) (bytes_eq word (codes "--cycles")) (bytes_eq word (codes "--rule")) refl refl refl e
    where
      go : (a b c : Bool) → bytes_eq word (codes "--cycle") ≡ a → bytes_eq word (codes "--cycles") ≡ b → bytes_eq word (codes "--rule") ≡ c
          → (if a then with_cycle value (options_of words) else if b then with_cycles value (options_of words) else if c then with_named value (options_of words) else with_word word (options_of (value ∷ words))) ≡ Some o
          → Found (word ∷ value ∷ words) o
      go true b c is first second e = next-is of_cycle ((bytes_eq-Decides word (codes "--cycle")).0 is) e
      go false true c is first second e = next-is of_cycles ((bytes_eq-Decides word (codes "--cycles")).0 first) e
      go false false true is first second e = next-is of_name ((bytes_eq-Decides word (codes "--rule")).0 second) e
      go false false false is first second e = with_word-is word (value ∷ words) o behind e

steps_of : (words : List Text) (o : Options) → options_of words ≡ Some o → Found words o
steps_of [] o e = ([], refl, sym (some_is _ o e))
steps_of (word ∷ []) o e = with_word-is word [] o (λ rest h. steps_of [] rest h) e
steps_of (word ∷ value ∷ words) o e = with_first-is word value words o (λ rest h. steps_of words rest h) (λ rest h. steps_of (value ∷ words) rest h) e

-- ---- values begin with no hyphen

-- a name begins with no hyphen
no_hyphen : (b c : Bool) (word name : Text) → (if (false && b) && c then Some word else None) ≡ Some name → ⊥
no_hyphen b c word name e = none-some name e

name-first : (d : ℕ) (ds name : Text) → name_of (d ∷ ds) ≡ Some name → (d == 45) ≡ false
name-first d ds name e = go (d == 45) refl
  where
    go : (b : Bool) → (d == 45) ≡ b → b ≡ false
    go false is = refl
    go true is = absurd (none-some name (subst (λ x. name_of (x ∷ ds) ≡ Some name) (eqb-true d 45 is) e))

name-plain : (v name : Text) → name_of v ≡ Some name → IsPlain v
name-plain [] name e = absurd (none-some name e)
name-plain (d ∷ ds) name e = record { d = d; ds = ds; is = refl; dash = name-first d ds name e }

value-plain : (key : Key) (v : Text) (rest o : Options) → Puts key v rest o → IsPlain v
value-plain of_cycle v rest o put = number-plain v put.n put.number
value-plain of_cycles v rest o put = number-plain v put.n put.number
value-plain of_name v rest o put = name-plain v put.name put.named

-- ---- rows

-- what may be found: values of the three options, and the flag
data Slot : Type 0 where
  of_value : Key → Slot
  of_flag : Flag → Slot

abbrev id_of : Slot → Text
id_of (of_value of_cycle) = codes "cycle"
id_of (of_value of_cycles) = codes "cycles"
id_of (of_value of_name) = codes "rule"
id_of (of_flag of_strict) = codes "strict"

abbrev reading_of_slot : Slot → Reading
reading_of_slot (of_value of_cycle) = reading_by (filled cycle_rule)
reading_of_slot (of_value of_cycles) = reading_by (filled cycles_rule)
reading_of_slot (of_value of_name) = reading_by (filled name_rule)
reading_of_slot (of_flag of_strict) = reading_by (filled strict_rule)

module _ (rows : List Row) (values : Slot → Option (List Text)) (known : Known id_of reading_of_slot rows values) where
  -- rows with one more
  known-used : (slot : Slot) (given : List Text) → values slot ≡ None → Known id_of reading_of_slot (used_by id_of reading_of_slot slot given rows) (with_given id_of reading_of_slot slot given values)
  known-used (of_value of_cycle) given fresh (of_value of_cycle) = found-own id_of reading_of_slot rows values known (of_value of_cycle) given fresh refl
  known-used (of_value of_cycle) given fresh (of_value of_cycles) = found-other id_of reading_of_slot rows values known (of_value of_cycle) (of_value of_cycles) given fresh refl
  known-used (of_value of_cycle) given fresh (of_value of_name) = found-other id_of reading_of_slot rows values known (of_value of_cycle) (of_value of_name) given fresh refl
  known-used (of_value of_cycle) given fresh (of_flag of_strict) = found-other id_of reading_of_slot rows values known (of_value of_cycle) (of_flag of_strict) given fresh refl
  known-used (of_value of_cycles) given fresh (of_value of_cycle) = found-other id_of reading_of_slot rows values known (of_value of_cycles) (of_value of_cycle) given fresh refl
  known-used (of_value of_cycles) given fresh (of_value of_cycles) = found-own id_of reading_of_slot rows values known (of_value of_cycles) given fresh refl
  known-used (of_value of_cycles) given fresh (of_value of_name) = found-other id_of reading_of_slot rows values known (of_value of_cycles) (of_value of_name) given fresh refl
  known-used (of_value of_cycles) given fresh (of_flag of_strict) = found-other id_of reading_of_slot rows values known (of_value of_cycles) (of_flag of_strict) given fresh refl
  known-used (of_value of_name) given fresh (of_value of_cycle) = found-other id_of reading_of_slot rows values known (of_value of_name) (of_value of_cycle) given fresh refl
  known-used (of_value of_name) given fresh (of_value of_cycles) = found-other id_of reading_of_slot rows values known (of_value of_name) (of_value of_cycles) given fresh refl
  known-used (of_value of_name) given fresh (of_value of_name) = found-own id_of reading_of_slot rows values known (of_value of_name) given fresh refl
  known-used (of_value of_name) given fresh (of_flag of_strict) = found-other id_of reading_of_slot rows values known (of_value of_name) (of_flag of_strict) given fresh refl
  known-used (of_flag of_strict) given fresh (of_value of_cycle) = found-other id_of reading_of_slot rows values known (of_flag of_strict) (of_value of_cycle) given fresh refl
  known-used (of_flag of_strict) given fresh (of_value of_cycles) = found-other id_of reading_of_slot rows values known (of_flag of_strict) (of_value of_cycles) given fresh refl
  known-used (of_flag of_strict) given fresh (of_value of_name) = found-other id_of reading_of_slot rows values known (of_flag of_strict) (of_value of_name) given fresh refl
  known-used (of_flag of_strict) given fresh (of_flag of_strict) = found-own id_of reading_of_slot rows values known (of_flag of_strict) given fresh refl

-- ---- the reader goes on by an option

abbrev run_shape : Text → Shape
run_shape name = (built (options_app name)).top

abbrev run_rules : List Rule
run_rules = (run_shape []).rules

abbrev held_with : List Row → Option (Text × List Text) → Held
held_with rows pending = record { rows = rows; pending = pending; skip = 0 }

-- where the reader stands between two options
abbrev between : List Row → Option (Text × List Text) → Walk
between rows pending = record { held = held_with rows pending; waiting = idle; position = 1; is_trailing = false; stopped = None }

-- it has these rows when what is pending is settled, and that passes
record Stands (values : Slot → Option (List Text)) (w : Walk) : Type 0 where
  rows : List Row
  pending : Option (Text × List Text)
  is : w ≡ between rows pending
  passes : settle_passes run_rules false (held_with rows pending) ≡ true
  known : Known id_of reading_of_slot (settled_rows run_rules pending rows) values

-- the words pass, and behind them the reader stands so
record Reads (name : Text) (values : Slot → Option (List Text)) (w : Walk) (words : List Text) : Type 0 where
  passes : walk_passes (run_shape name) [] w words ≡ true
  stands : Stands values (fold (walked run_rules []) w words)

module _ (name : Text) (rows : List Row) (pending : Option (Text × List Text)) (settles : settle_passes run_rules false (held_with rows pending) ≡ true) where
  abbrev so_far : List Row
  so_far = settled_rows run_rules pending rows

  module _ (v : Text) where
    equals_walked : (key : Key) → walked run_rules [] (between rows pending) (front_word key ++ v) ≡ between (used_by id_of reading_of_slot (of_value key) (v ∷ []) so_far) None
    unfolding clap_on_literals
    equals_walked of_cycle = refl
    equals_walked of_cycles = refl
    equals_walked of_name = refl

    equals_passes : (key : Key) → has_row (id_of (of_value key)) so_far ≡ false → turn_passes (run_shape name) [] (between rows pending) (front_word key ++ v) ≡ true
    unfolding clap_on_literals
    equals_passes of_cycle none = simp (settles, none)
    equals_passes of_cycles none = simp (settles, none)
    equals_passes of_name none = simp (settles, none)

  flag_walked : (f : Flag) → walked run_rules [] (between rows pending) (own_word f) ≡ between (used_by id_of reading_of_slot (of_flag f) (codes "true" ∷ []) so_far) None
  unfolding clap_on_literals
  flag_walked of_strict = refl

  flag_passes : (f : Flag) → has_row (id_of (of_flag f)) so_far ≡ false → turn_passes (run_shape name) [] (between rows pending) (own_word f) ≡ true
  unfolding clap_on_literals
  flag_passes of_strict none = simp (settles, none)

  module _ (d : ℕ) (ds : Text) (dash : (d == 45) ≡ false) where
    next_walked : (key : Key) → walked run_rules [] (walked run_rules [] (between rows pending) (flag_word key)) (d ∷ ds) ≡ between so_far (Some (id_of (of_value key), (d ∷ ds) ∷ []))
    unfolding clap_on_literals
    next_walked of_cycle = simp dash
    next_walked of_cycles = simp dash
    next_walked of_name = simp dash

    next_passes : (key : Key) → (turn_passes (run_shape name) [] (between rows pending) (flag_word key) && turn_passes (run_shape name) [] (walked run_rules [] (between rows pending) (flag_word key)) (d ∷ ds)) ≡ true
    unfolding clap_on_literals
    next_passes of_cycle = simp (settles, dash)
    next_passes of_cycles = simp (settles, dash)
    next_passes of_name = simp (settles, dash)

  -- the value is used when it is settled
  next_settles : (key : Key) (v : Text) → has_row (id_of (of_value key)) so_far ≡ false → settle_passes run_rules false (held_with so_far (Some (id_of (of_value key), v ∷ []))) ≡ true
  next_settles of_cycle v none = simp none
  next_settles of_cycles v none = simp none
  next_settles of_name v none = simp none

  next_used : (key : Key) (v : Text) → settled_rows run_rules (Some (id_of (of_value key), v ∷ [])) so_far ≡ used_by id_of reading_of_slot (of_value key) (v ∷ []) so_far
  next_used of_cycle v = refl
  next_used of_cycles v = refl
  next_used of_name v = refl

module _ (name : Text) (values : Slot → Option (List Text)) where
  -- what a word leaves, where what is pending settles
  word-read : (w after : Walk) (word : Text) (words : List Text) (others : Slot → Option (List Text)) → walked run_rules [] w word ≡ after → turn_passes (run_shape name) [] w word ≡ true
      → Reads name others after words → Reads name others w (word ∷ words)
  unfolding clap_on_literals
  word-read w after word words others is passes reads = record {
    passes = rw passes (rw is reads.passes);
    stands = rw is reads.stands;
  }

  -- the words of an option, from where the reader stands
  module _ (steps : List Step) (w : Walk) (stands : Stands values w) where
    equals-read : (key : Key) (v : Text) (others : Slot → Option (List Text)) → values (of_value key) ≡ None
        → ((after : Walk) → Stands (with_given id_of reading_of_slot (of_value key) (v ∷ []) values) after → Reads name others after (words_of steps)) → Reads name others w (words_of (equals key v ∷ steps))
    equals-read key v others fresh later =
        let none = none-used id_of reading_of_slot (settled_rows run_rules stands.pending stands.rows) values stands.known (of_value key) fresh in
        let so_far = settled_rows run_rules stands.pending stands.rows in
        subst (λ (from : Walk). Reads name others from (words_of (equals key v ∷ steps))) (sym stands.is)
        (word-read (between stands.rows stands.pending) _ (front_word key ++ v) (words_of steps) others (equals_walked name stands.rows stands.pending stands.passes v key) (equals_passes name stands.rows stands.pending stands.passes v key none)
        (later _ (record { rows = used_by id_of reading_of_slot (of_value key) (v ∷ []) so_far; pending = None; is = refl; passes = refl; known = known-used so_far values stands.known (of_value key) (v ∷ []) fresh })))

    flag-read : (f : Flag) (others : Slot → Option (List Text)) → values (of_flag f) ≡ None
        → ((after : Walk) → Stands (with_given id_of reading_of_slot (of_flag f) (codes "true" ∷ []) values) after → Reads name others after (words_of steps)) → Reads name others w (words_of (alone f ∷ steps))
    flag-read f others fresh later =
        let none = none-used id_of reading_of_slot (settled_rows run_rules stands.pending stands.rows) values stands.known (of_flag f) fresh in
        let so_far = settled_rows run_rules stands.pending stands.rows in
        subst (λ (from : Walk). Reads name others from (words_of (alone f ∷ steps))) (sym stands.is)
        (word-read (between stands.rows stands.pending) _ (own_word f) (words_of steps) others (flag_walked name stands.rows stands.pending stands.passes f) (flag_passes name stands.rows stands.pending stands.passes f none)
        (later _ (record { rows = used_by id_of reading_of_slot (of_flag f) (codes "true" ∷ []) so_far; pending = None; is = refl; passes = refl; known = known-used so_far values stands.known (of_flag f) (codes "true" ∷ []) fresh })))

    next-read : (key : Key) (v : Text) (others : Slot → Option (List Text)) → IsPlain v → values (of_value key) ≡ None
        → ((after : Walk) → Stands (with_given id_of reading_of_slot (of_value key) (v ∷ []) values) after → Reads name others after (words_of steps)) → Reads name others w (words_of (next key v ∷ steps))
    next-read key v others plain fresh later =
        let none = none-used id_of reading_of_slot (settled_rows run_rules stands.pending stands.rows) values stands.known (of_value key) fresh in
        let so_far = settled_rows run_rules stands.pending stands.rows in
        let start = between stands.rows stands.pending in
        let text = plain.d ∷ plain.ds in
        let both = both-true _ _ (next_passes name stands.rows stands.pending stands.passes plain.d plain.ds plain.dash key) in
        let after : Stands (with_given id_of reading_of_slot (of_value key) (v ∷ []) values) (between so_far (Some (id_of (of_value key), text ∷ []))) =
        subst (λ (t : Text). Stands (with_given id_of reading_of_slot (of_value key) (v ∷ []) values) (between so_far (Some (id_of (of_value key), t ∷ [])))) plain.is
        (record {
          rows = so_far;
          pending = Some (id_of (of_value key), v ∷ []);
          is = refl;
          passes = next_settles name stands.rows stands.pending stands.passes key v none;
          known = subst (λ (rows : List Row). Known id_of reading_of_slot rows (with_given id_of reading_of_slot (of_value key) (v ∷ []) values)) (sym (next_used name stands.rows stands.pending stands.passes key v)) (known-used so_far values stands.known (of_value key) (v ∷ []) fresh);
        }) in
        subst (λ (from : Walk). Reads name others from (words_of (next key v ∷ steps))) (sym stands.is)
        (subst (λ (t : Text). Reads name others start (flag_word key ∷ t ∷ words_of steps)) (sym plain.is)
        (word-read start _ (flag_word key) (text ∷ words_of steps) others refl both.0
        (word-read _ _ text (words_of steps) others (next_walked name stands.rows stands.pending stands.passes plain.d plain.ds plain.dash key) both.1
        (later _ after))))

-- ---- all the options

-- the values that steps give, behind those that there are
abbrev all_values : List Step → (Slot → Option (List Text)) → Slot → Option (List Text)
all_values [] values = values
all_values (next key v ∷ steps) values = all_values steps (with_given id_of reading_of_slot (of_value key) (v ∷ []) values)
all_values (equals key v ∷ steps) values = all_values steps (with_given id_of reading_of_slot (of_value key) (v ∷ []) values)
all_values (alone f ∷ steps) values = all_values steps (with_given id_of reading_of_slot (of_flag f) (codes "true" ∷ []) values)

-- nothing is there yet of what options give
record AreFree (o : Options) (values : Slot → Option (List Text)) : Type 0 where
  cycle : is_some o.cycle ≡ true → values (of_value of_cycle) ≡ None
  cycles : is_some o.cycles ≡ true → values (of_value of_cycles) ≡ None
  rule : is_some o.rule ≡ true → values (of_value of_name) ≡ None
  strict : o.is_strict ≡ true → values (of_flag of_strict) ≡ None

module _ (values : Slot → Option (List Text)) (rest o : Options) (free : AreFree o values) where
  key-fresh : (key : Key) (v : Text) → Puts key v rest o → values (of_value key) ≡ None
  key-fresh of_cycle v put = free.cycle (ap is_some put.cycle)
  key-fresh of_cycles v put = free.cycles (ap is_some put.cycles)
  key-fresh of_name v put = free.rule (ap is_some put.rule)

  key-free : (key : Key) (v : Text) → Puts key v rest o → AreFree rest (with_given id_of reading_of_slot (of_value key) (v ∷ []) values)
  key-free of_cycle v put = record {
    cycle = λ s. absurd (none-there rest.cycle put.fresh s);
    cycles = λ s. free.cycles (ap is_some put.cycles ∙ s);
    rule = λ s. free.rule (ap is_some put.rule ∙ s);
    strict = λ s. free.strict (put.strict ∙ s);
  }
  key-free of_cycles v put = record {
    cycle = λ s. free.cycle (ap is_some put.cycle ∙ s);
    cycles = λ s. absurd (none-there rest.cycles put.fresh s);
    rule = λ s. free.rule (ap is_some put.rule ∙ s);
    strict = λ s. free.strict (put.strict ∙ s);
  }
  key-free of_name v put = record {
    cycle = λ s. free.cycle (ap is_some put.cycle ∙ s);
    cycles = λ s. free.cycles (ap is_some put.cycles ∙ s);
    rule = λ s. absurd (none-there rest.rule put.fresh s);
    strict = λ s. free.strict (put.strict ∙ s);
  }

  flag-fresh : (f : Flag) → Sets f rest o → values (of_flag f) ≡ None
  flag-fresh of_strict put = free.strict put.strict

  flag-free : (f : Flag) → Sets f rest o → AreFree rest (with_given id_of reading_of_slot (of_flag f) (codes "true" ∷ []) values)
  flag-free of_strict put = record {
    cycle = λ s. free.cycle (ap is_some put.cycle ∙ s);
    cycles = λ s. free.cycles (ap is_some put.cycles ∙ s);
    rule = λ s. free.rule (ap is_some put.rule ∙ s);
    strict = λ s. absurd (true≢false (sym s ∙ put.fresh));
  }

all-read : (name : Text) (steps : List Step) (o : Options) (values : Slot → Option (List Text)) (w : Walk) → Gives steps o → AreFree o values → Stands values w → Reads name (all_values steps values) w (words_of steps)
unfolding clap_on_literals
all-read name [] o values w gives free stands = record { passes = refl; stands = stands }
all-read name (next key v ∷ steps) o values w gives free stands =
    next-read name values steps w stands key v _ (value-plain key v gives.0 o gives.2) (key-fresh values gives.0 o free key v gives.2)
    (λ after stands'. all-read name steps gives.0 _ after gives.1 (key-free values gives.0 o free key v gives.2) stands')
all-read name (equals key v ∷ steps) o values w gives free stands =
    equals-read name values steps w stands key v _ (key-fresh values gives.0 o free key v gives.2)
    (λ after stands'. all-read name steps gives.0 _ after gives.1 (key-free values gives.0 o free key v gives.2) stands')
all-read name (alone f ∷ steps) o values w gives free stands =
    flag-read name values steps w stands f _ (flag-fresh values gives.0 o free f gives.2)
    (λ after stands'. all-read name steps gives.0 _ after gives.1 (flag-free values gives.0 o free f gives.2) stands')

-- ---- what they are read as

abbrev flag_values : Bool → Option (List Text) → Option (List Text)
flag_values false given = given
flag_values true given = Some (codes "true" ∷ [])

-- values are read as options, where those that the options don't give were there before
record AreReadAs (o : Options) (before values : Slot → Option (List Text)) : Type 0 where
  cycle : first_as number_of_word (values (of_value of_cycle)) ≡ option_or o.cycle (first_as number_of_word (before (of_value of_cycle)))
  cycles : first_as number_of_word (values (of_value of_cycles)) ≡ option_or o.cycles (first_as number_of_word (before (of_value of_cycles)))
  rule : first_as name_of (values (of_value of_name)) ≡ option_or o.rule (first_as name_of (before (of_value of_name)))
  strict : values (of_flag of_strict) ≡ flag_values o.is_strict (before (of_flag of_strict))

module _ (rest o : Options) (before values : Slot → Option (List Text)) where
  abbrev cycle-own : Option ℕ → Option ℕ
  cycle-own own = option_or own (first_as number_of_word (before (of_value of_cycle)))

  abbrev cycles-own : Option ℕ → Option ℕ
  cycles-own own = option_or own (first_as number_of_word (before (of_value of_cycles)))

  abbrev rule-own : Option (List ℕ) → Option (List ℕ)
  rule-own own = option_or own (first_as name_of (before (of_value of_name)))

  abbrev strict-own : Bool → Option (List Text)
  strict-own own = flag_values own (before (of_flag of_strict))

  key-read : (key : Key) (v : Text) → Puts key v rest o → AreReadAs rest (with_given id_of reading_of_slot (of_value key) (v ∷ []) before) values → AreReadAs o before values
  key-read of_cycle v put read = record {
    cycle = read.cycle ∙ ap₂ option_or put.fresh put.number ∙ ap cycle-own (sym put.cycle);
    cycles = read.cycles ∙ ap cycles-own (sym put.cycles);
    rule = read.rule ∙ ap rule-own (sym put.rule);
    strict = read.strict ∙ ap strict-own (sym put.strict);
  }
  key-read of_cycles v put read = record {
    cycle = read.cycle ∙ ap cycle-own (sym put.cycle);
    cycles = read.cycles ∙ ap₂ option_or put.fresh put.number ∙ ap cycles-own (sym put.cycles);
    rule = read.rule ∙ ap rule-own (sym put.rule);
    strict = read.strict ∙ ap strict-own (sym put.strict);
  }
  key-read of_name v put read = record {
    cycle = read.cycle ∙ ap cycle-own (sym put.cycle);
    cycles = read.cycles ∙ ap cycles-own (sym put.cycles);
    rule = read.rule ∙ ap₂ option_or put.fresh put.named ∙ ap rule-own (sym put.rule);
    strict = read.strict ∙ ap strict-own (sym put.strict);
  }

  flag-read-as : (f : Flag) → Sets f rest o → AreReadAs rest (with_given id_of reading_of_slot (of_flag f) (codes "true" ∷ []) before) values → AreReadAs o before values
  flag-read-as of_strict put read = record {
    cycle = read.cycle ∙ ap cycle-own (sym put.cycle);
    cycles = read.cycles ∙ ap cycles-own (sym put.cycles);
    rule = read.rule ∙ ap rule-own (sym put.rule);
    strict = read.strict ∙ ap (λ (own : Bool). flag_values own (Some (codes "true" ∷ []))) put.fresh ∙ ap strict-own (sym put.strict);
  }

all-read-as : (steps : List Step) (o : Options) (before : Slot → Option (List Text)) → Gives steps o → AreReadAs o before (all_values steps before)
all-read-as [] o before gives = record {
  cycle = ap (λ (p : Options). option_or p.cycle (first_as number_of_word (before (of_value of_cycle)))) (sym gives);
  cycles = ap (λ (p : Options). option_or p.cycles (first_as number_of_word (before (of_value of_cycles)))) (sym gives);
  rule = ap (λ (p : Options). option_or p.rule (first_as name_of (before (of_value of_name)))) (sym gives);
  strict = ap (λ (p : Options). flag_values p.is_strict (before (of_flag of_strict))) (sym gives);
}
all-read-as (next key v ∷ steps) o before gives = key-read gives.0 o before _ key v gives.2 (all-read-as steps gives.0 (with_given id_of reading_of_slot (of_value key) (v ∷ []) before) gives.1)
all-read-as (equals key v ∷ steps) o before gives = key-read gives.0 o before _ key v gives.2 (all-read-as steps gives.0 (with_given id_of reading_of_slot (of_value key) (v ∷ []) before) gives.1)
all-read-as (alone f ∷ steps) o before gives = flag-read-as gives.0 o before _ f gives.2 (all-read-as steps gives.0 (with_given id_of reading_of_slot (of_flag f) (codes "true" ∷ []) before) gives.1)

pub options_are_simple : (name : Text) → is_simple (options_app name) ≡ true
options_are_simple name = refl

-- ---- what is built

pub options_app-is : (name : Text) (b first second third whole : Command) (cycle cycles rule strict : Arg) → app_of b ≡ bare name → AddsArg b cycle first → AddsArg first cycles second → AddsArg second rule third → AddsArg third strict whole
    → rule_of cycle ≡ cycle_rule → rule_of cycles ≡ cycles_rule → rule_of rule ≡ name_rule → rule_of strict ≡ strict_rule
    → cycle.global ≡ false → cycles.global ≡ false → rule.global ≡ false → strict.global ≡ false → app_of whole ≡ options_app name
options_app-is name b first second third whole cycle cycles rule strict begun one two three four cycle_is cycles_is rule_is strict_is here there beside last =
    four.shape last ∙ ap₂ with_rule (three.shape beside ∙ ap₂ with_rule (two.shape there ∙ ap₂ with_rule (one.shape here ∙ ap₂ with_rule begun cycle_is) cycles_is) rule_is) strict_is

-- what a flag says of the option is what was found of it
pub given_by_flag : (one : Option Text) (flag o : Bool) → one ≡ Some (flag_text o) → (one ≡ Some (codes "true") → flag ≡ true) → (one ≡ Some (codes "false") → flag ≡ false) → flag ≡ o
given_by_flag one flag false e on off = off e
given_by_flag one flag true e on off = on e

-- options are what they have
pub options_same : (a b : Options) → a.cycle ≡ b.cycle → a.cycles ≡ b.cycles → a.rule ≡ b.rule → a.is_strict ≡ b.is_strict → a ≡ b
options_same a b cycle cycles name strict = rw cycle (rw cycles (rw name (rw strict refl)))

-- ---- what is found

-- the words are taken, and what is found gives the options
pub record IsRead (name : Text) (words : List Text) (o : Options) : Type 0 where
  pub taken : takes (options_app name) words ≡ true
  pub gives : Give (matches_of (options_app name) words) o

-- without a value of its own, an option has none
module _ (rows : List Row) where
  plain-default : (rule : Rule) → rule.defaults ≡ [] → with_default rows rule ≡ rows
  plain-default rule none = rw none (go (has_row rule.id rows))
    where
      go : (b : Bool) → (if b then rows else rows) ≡ rows
      go true = refl
      go false = refl

abbrev flag_filled : Flag → Rule
flag_filled of_strict = filled strict_rule

abbrev default_row : Flag → Row
default_row f = record { id = id_of (of_flag f); values = codes "false" ∷ []; count = None; source = Some DefaultValue; reading = reading_of_slot (of_flag f) }

-- the rows with what a flag says by default, where it isn't given
record Defaults (f : Flag) (rows final : List Row) (given : Bool) : Type 0 where
  others : (slot : Slot) → bytes_eq (id_of (of_flag f)) (id_of slot) ≡ false → row_of_id (id_of slot) final ≡ row_of_id (id_of slot) rows
  own : one_of (id_of (of_flag f)) final ≡ Some (flag_text given)

module _ (rows : List Row) where
  default-none : (f : Flag) → row_of_id (id_of (of_flag f)) rows ≡ None → with_default rows (flag_filled f) ≡ rows ++ (default_row f ∷ [])
  default-none of_strict none =
      rw (has-found (codes "strict") rows ∙ ap is_some none) (with_row-is (codes "strict") (reading_of_slot (of_flag of_strict)) DefaultValue (codes "false" ∷ []) rows none)

  default-some : (f : Flag) (r : Row) → row_of_id (id_of (of_flag f)) rows ≡ Some r → with_default rows (flag_filled f) ≡ rows
  default-some of_strict r there = rw (has-found (codes "strict") rows ∙ ap is_some there) refl

  own-id : (f : Flag) → row_of_id (id_of (of_flag f)) (default_row f ∷ []) ≡ Some (default_row f)
  own-id of_strict = refl

  own-text : (f : Flag) → row_text (default_row f) ≡ Some (codes "false")
  own-text of_strict = refl

  given-text : (f : Flag) → row_text (row_for id_of reading_of_slot (of_flag f) (codes "true" ∷ [])) ≡ Some (codes "true")
  given-text of_strict = refl

  defaulted : (f : Flag) (given : Bool) → row_of_id (id_of (of_flag f)) rows ≡ option_map (row_for id_of reading_of_slot (of_flag f)) (flag_values given None) → Defaults f rows (with_default rows (flag_filled f)) given
  defaulted f false none =
      let is = default-none f none in
      let found : (id : Text) → row_of_id id (with_default rows (flag_filled f)) ≡ option_or (row_of_id id rows) (row_of_id id (default_row f ∷ [])) =
      λ id. ap (row_of_id id) is ∙ find-append (λ (r : Row). bytes_eq r.id id) rows (default_row f ∷ []) in
      record {
        others = λ slot differ. found (id_of slot) ∙ ap (λ (b : Bool). option_or (row_of_id (id_of slot) rows) (cond b (Some (default_row f)) None)) differ ∙ or-none (row_of_id (id_of slot) rows);
        own = ap (option_and_then row_text) (found (id_of (of_flag f)) ∙ ap₂ option_or none (own-id f)) ∙ own-text f;
      }
  defaulted f true there =
      let is = default-some f _ there in
      record {
        others = λ slot differ. ap (row_of_id (id_of slot)) is;
        own = ap (one_of (id_of (of_flag f))) is ∙ ap (option_and_then row_text) there ∙ given-text f;
      }

-- the rows after all words have the rows of these options, and whether the flag is given
record IsFinished (rows final : List Row) (strict : Bool) : Type 0 where
  values : (key : Key) → row_of_id (id_of (of_value key)) final ≡ row_of_id (id_of (of_value key)) rows
  flag : one_of (codes "strict") final ≡ Some (flag_text strict)

abbrev all_defaults : List Row → List Row
all_defaults rows = with_default rows (flag_filled of_strict)

module _ (rows : List Row) (values : Slot → Option (List Text)) (known : Known id_of reading_of_slot rows values) where
  finish : (strict : Bool) → values (of_flag of_strict) ≡ flag_values strict None → IsFinished rows (all_defaults rows) strict
  finish strict told =
      let first = defaulted rows of_strict strict (known (of_flag of_strict) ∙ ap (option_map (row_for id_of reading_of_slot (of_flag of_strict))) told) in
      record { values = λ key. first.others (of_value key) (not-strict key); flag = first.own }
    where
      not-strict : (key : Key) → bytes_eq (codes "strict") (id_of (of_value key)) ≡ false
      not-strict of_cycle = refl
      not-strict of_cycles = refl
      not-strict of_name = refl

  finished-is : (pending : Option (Text × List Text)) (before : List Row) → settled_rows run_rules pending before ≡ rows → finished run_rules (held_with before pending) ≡ all_defaults rows
  finished-is pending before is =
      rw is
      (ap (λ (first : List Row). all_defaults (with_default (with_default first (filled cycles_rule)) (filled name_rule))) (plain-default rows (filled cycle_rule) refl)
      ∙ ap (λ (second : List Row). all_defaults (with_default second (filled name_rule))) (plain-default rows (filled cycles_rule) refl)
      ∙ ap (λ (third : List Row). all_defaults third) (plain-default rows (filled name_rule) refl))

-- what is read of a row is read of its values
read-through : {X : Type 0} (read : Text → Option X) (slot : Slot) (found : Option (List Text)) → option_and_then read (option_and_then (λ (r : Row). slice_get r.values 0) (option_map (row_for id_of reading_of_slot slot) found)) ≡ first_as read found
read-through read slot None = refl
read-through read slot (Some texts) = refl

abbrev nothing : Slot → Option (List Text)
nothing slot = None

all-free : (o : Options) → AreFree o nothing
all-free o = record { cycle = λ s. refl; cycles = λ s. refl; rule = λ s. refl; strict = λ s. refl }

none-known : Known id_of reading_of_slot [] nothing
none-known (of_value of_cycle) = refl
none-known (of_value of_cycles) = refl
none-known (of_value of_name) = refl
none-known (of_flag of_strict) = refl

first-stands : Stands nothing (walk_from nothing_held)
first-stands = record { rows = []; pending = None; is = refl; passes = refl; known = none-known }

module _ (name : Text) (words : List Text) (o : Options) (values : Slot → Option (List Text)) (reads : Reads name values (walk_from nothing_held) words) (told : AreReadAs o nothing values) where
  abbrev so : List Row
  so = settled_rows run_rules reads.stands.pending reads.stands.rows

  abbrev final : List Row
  final = all_defaults so

  end : finished run_rules (walk run_rules [] nothing_held words).held ≡ final
  end = ap (λ (w : Walk). finished run_rules w.held) reads.stands.is ∙ finished-is so values reads.stands.known reads.stands.pending reads.stands.rows refl

  is-finished : IsFinished so final o.is_strict
  is-finished = finish so values reads.stands.known o.is_strict told.strict

  row-is : (key : Key) → row_of_id (id_of (of_value key)) final ≡ option_map (row_for id_of reading_of_slot (of_value key)) (values (of_value key))
  row-is key = is-finished.values key ∙ reads.stands.known (of_value key)

  are-taken : takes (options_app name) words ≡ true
  unfolding clap_on_literals
  are-taken = rw reads.passes (rw reads.stands.is (simp reads.stands.passes))

  are-read : IsRead name words o
  are-read = record {
    taken = are-taken;
    gives = subst (λ (rows : List Row). Give rows o) (sym end) (record {
      cycle = ap (λ found. option_and_then number_of_word (option_and_then (λ (r : Row). slice_get r.values 0) found)) (row-is of_cycle) ∙ read-through number_of_word (of_value of_cycle) (values (of_value of_cycle)) ∙ told.cycle ∙ or-none o.cycle;
      cycles = ap (λ found. option_and_then number_of_word (option_and_then (λ (r : Row). slice_get r.values 0) found)) (row-is of_cycles) ∙ read-through number_of_word (of_value of_cycles) (values (of_value of_cycles)) ∙ told.cycles ∙ or-none o.cycles;
      rule = ap (λ found. option_and_then name_of (option_and_then (λ (r : Row). slice_get r.values 0) found)) (row-is of_name) ∙ read-through name_of (of_value of_name) (values (of_value of_name)) ∙ told.rule ∙ or-none o.rule;
      strict = is-finished.flag;
    });
  }

-- valid words are read as the options that they give
pub words_are_read : (name : Text) (words : List Text) → is_some (options_of words) ≡ true
    → (o : Options) × (options_of words ≡ Some o) × IsRead name words o
words_are_read name words valid = go (options_of words) refl valid
  where
    go : (found : Option Options) → options_of words ≡ found → is_some found ≡ true → (o : Options) × (options_of words ≡ Some o) × IsRead name words o
    go None is valid = absurd (true≢false (sym valid))
    go (Some o) is valid =
        let found = steps_of words o is in
        let reads = all-read name found.0 o nothing (walk_from nothing_held) found.2 (all-free o) first-stands in
        (o, is, subst (λ ws. IsRead name ws o) (sym found.1) (are-read name (words_of found.0) o _ reads (all-read-as found.0 o nothing found.2)))
