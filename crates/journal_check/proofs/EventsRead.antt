-- Events are read one after another.
use Rattle.std.proofs.Common.{◌≡◌, ℕ, Bool, true, false, List, [], ◌∷◌, ◌++◌, ◌+◌, ◌<◌, length, Option, Some, None, Err, refl, sym, ap, subst, ◌∙◌, append_assoc, append-nil, arith}
use Rattle.std.specs.Prelude.{codes, if◌then◌else◌, IfSome}
use Rattle.std.specs.Str.{bytes_eq}
use Rattle.typed_core.specs.declared.access.Event.{Event}
use Rattle.typed_core.specs.declared.design.Parts.{Parts}
use denote.Ref.{Bor}
use Rattle.journal_check.specs.inner.Tokens.{◌>>=◌, Front, Reads, ReadsFront, event_read, events_at, tokens_left, tokens_of}
use Rattle.kw_bits.specs.declared.failure.Failure.{Failure}
use Rattle.journal_check.specs.declared.token.Malformed.{Malformed}
use Rattle.kw_bits.specs.declared.failure.Failure.TheVariants as failures

-- events, and then those of a front
abbrev pub after_events : List Event → Front (List Event) → Front (List Event)
after_events events read = read >>= λ (more : List Event × List (List ℕ)). Some (events ++ more.0, more.1)

-- how many bytes are left
abbrev pub bytes_left : Option (Bor (List ℕ)) → ℕ
bytes_left None = 0
bytes_left (Some rest) = length rest.now + 1

-- none before
pub none_before : (read : Front (List Event)) → after_events [] read ≡ read
none_before None = refl
none_before (Some read) = refl

-- at a colon
pub at_colon : (design : Parts) (events : List Event) (token : List ℕ) (tokens : List (List ℕ)) → bytes_eq token (codes ":") ≡ true → after_events events (events_at design (token ∷ tokens)) ≡ Some (events, tokens)
at_colon design events token tokens is =
    ap (λ (b : Bool). after_events events (if b then Some ([], tokens) else (event_read design token >>= λ (event : Event). events_at design tokens >>= λ (more : List Event × List (List ℕ)). Some (event ∷ more.0, more.1)))) is
    ∙ ap (λ (all : List Event). Some (all, tokens)) (append-nil events)

one_more : (events : List Event) (e : Event) (read : Front (List Event)) → after_events events (read >>= λ (more : List Event × List (List ℕ)). Some (e ∷ more.0, more.1)) ≡ after_events (events ++ e ∷ []) read
one_more events e None = refl
one_more events e (Some read) = ap (λ (all : List Event). Some (all, read.1)) (sym (append_assoc events (e ∷ []) read.0))

-- at an event
pub at_event : (design : Parts) (events : List Event) (token : List ℕ) (tokens : List (List ℕ)) (e : Event) → bytes_eq token (codes ":") ≡ false → event_read design token ≡ Some e
    → after_events events (events_at design (token ∷ tokens)) ≡ after_events (events ++ e ∷ []) (events_at design tokens)
at_event design events token tokens e other is =
    ap (λ (b : Bool). after_events events (if b then Some ([], tokens) else (event_read design token >>= λ (event : Event). events_at design tokens >>= λ (more : List Event × List (List ℕ)). Some (event ∷ more.0, more.1)))) other
    ∙ ap (λ (found : Option Event). after_events events (found >>= λ (event : Event). events_at design tokens >>= λ (more : List Event × List (List ℕ)). Some (event ∷ more.0, more.1))) is
    ∙ one_more events e (events_at design tokens)

-- at what is no event
pub at_none : (design : Parts) (events : List Event) (token : List ℕ) (tokens : List (List ℕ)) → bytes_eq token (codes ":") ≡ false → event_read design token ≡ None → after_events events (events_at design (token ∷ tokens)) ≡ None
at_none design events token tokens other is =
    ap (λ (b : Bool). after_events events (if b then Some ([], tokens) else (event_read design token >>= λ (event : Event). events_at design tokens >>= λ (more : List Event × List (List ℕ)). Some (event ∷ more.0, more.1)))) other
    ∙ ap (λ (found : Option Event). after_events events (found >>= λ (event : Event). events_at design tokens >>= λ (more : List Event × List (List ℕ)). Some (event ∷ more.0, more.1))) is

-- ---- by the bytes that are left

-- the next token is at the front
turn : (design : Parts) (events : List Event) (rest : Option (Bor (List ℕ))) (bytes : Bor (List ℕ)) (tokens : List (List ℕ)) (whole : Front (List Event))
    → after_events events (events_at design (tokens_left rest)) ≡ whole → rest ≡ Some bytes → tokens_of bytes.now ≡ tokens → whole ≡ after_events events (events_at design tokens)
turn design events rest bytes tokens whole so_far is cut =
    sym so_far ∙ ap (λ (r : Option (Bor (List ℕ))). after_events events (events_at design (tokens_left r))) is ∙ ap (λ (ts : List (List ℕ)). after_events events (events_at design ts)) cut

pub colon_read : (design : Parts) (events : List Event) (rest : Option (Bor (List ℕ))) (bytes : Bor (List ℕ)) (token : List ℕ) (behind : Option (Bor (List ℕ))) (whole : Front (List Event))
    → after_events events (events_at design (tokens_left rest)) ≡ whole → rest ≡ Some bytes → tokens_of bytes.now ≡ token ∷ tokens_left behind → bytes_eq token (codes ":") ≡ true → whole ≡ Some (events, tokens_left behind)
colon_read design events rest bytes token behind whole so_far is cut test =
    turn design events rest bytes (token ∷ tokens_left behind) whole so_far is cut ∙ at_colon design events token (tokens_left behind) test

pub event_kept : (design : Parts) (events : List Event) (rest : Option (Bor (List ℕ))) (bytes : Bor (List ℕ)) (token : List ℕ) (behind : Option (Bor (List ℕ))) (whole : Front (List Event)) (e : Event) (more : List Event)
    → after_events events (events_at design (tokens_left rest)) ≡ whole → rest ≡ Some bytes → tokens_of bytes.now ≡ token ∷ tokens_left behind → bytes_eq token (codes ":") ≡ false
    → event_read design token ≡ Some e → more ≡ events ++ e ∷ [] → after_events more (events_at design (tokens_left behind)) ≡ whole
event_kept design events rest bytes token behind whole e more so_far is cut test read pushed =
    ap (λ (all : List Event). after_events all (events_at design (tokens_left behind))) pushed
    ∙ sym (turn design events rest bytes (token ∷ tokens_left behind) whole so_far is cut ∙ at_event design events token (tokens_left behind) e test read)

pub event_flawed : (design : Parts) (events : List Event) (rest : Option (Bor (List ℕ))) (bytes : Bor (List ℕ)) (token : List ℕ) (behind : Option (Bor (List ℕ))) (whole : Front (List Event)) (flaw : Failure Malformed)
    → after_events events (events_at design (tokens_left rest)) ≡ whole → rest ≡ Some bytes → tokens_of bytes.now ≡ token ∷ tokens_left behind → bytes_eq token (codes ":") ≡ false
    → Reads {X = Event} (λ event. event) (Err flaw) (event_read design token) → ReadsFront {X = List Event} (Err flaw) whole
event_flawed design events rest bytes token behind whole (failures.Why malformed) so_far is cut test none =
    turn design events rest bytes (token ∷ tokens_left behind) whole so_far is cut ∙ at_none design events token (tokens_left behind) test none
event_flawed design events rest bytes token behind whole failures.NoMemory so_far is cut test none = tt

pub none_left : (design : Parts) (events : List Event) (rest : Option (Bor (List ℕ))) (whole : Front (List Event)) → after_events events (events_at design (tokens_left rest)) ≡ whole → rest ≡ None → whole ≡ None
none_left design events rest whole so_far is = sym so_far ∙ ap (λ (r : Option (Bor (List ℕ))). after_events events (events_at design (tokens_left r))) is

pub fewer_left : (rest : Option (Bor (List ℕ))) (bytes : Bor (List ℕ)) (behind : Option (Bor (List ℕ))) → rest ≡ Some bytes → IfSome behind (λ (more : Bor (List ℕ)). length more.now < length bytes.now) → bytes_left behind < bytes_left rest
fewer_left rest bytes None is short = subst (λ (r : Option (Bor (List ℕ))). 0 < bytes_left r) (sym is) (omega arith)
fewer_left rest bytes (Some more) is short = subst (λ (r : Option (Bor (List ℕ))). length more.now + 1 < bytes_left r) (sym is) (omega (arith, short))
