-- Parts of a rule's body, one behind another.
use Rattle.std.proofs.Common.{◌≡◌, List, refl}
use Rattle.typed_core.specs.Evaluation.{Ending, Value, Stop, Evaluation, ◌>>=◌, bind, comes_to}
use Rattle.typed_core.specs.declared.access.Event.{Event}
use Rattle.typed_core.specs.declared.outcome.Stopped.{Stopped}

-- nothing behind a part
pub bind-unit : {W : Type 0} (es : List Event) (y : Ending W Stopped) → bind es y comes_to ≡ record { events = es; ending = y }
bind-unit es (Value w) = refl
bind-unit es (Stop c) = refl

pub bind-nothing : {W : Type 0} (a : Evaluation W Stopped) (events : List Event) → (a >>= comes_to) events ≡ a events
bind-nothing a events = bind-unit (a events).events (a events).ending

-- grouped to the left or to the right
regrouped : {U V W : Type 0} (es : List Event) (x : Ending U Stopped) (f : U → Evaluation V Stopped) (g : V → Evaluation W Stopped) →
    bind (bind es x f).events (bind es x f).ending g ≡ bind es x (λ u. f u >>= g)
regrouped es (Value u) f g = refl
regrouped es (Stop c) f g = refl

pub bind-assoc : {U V W : Type 0} (m : Evaluation U Stopped) (f : U → Evaluation V Stopped) (g : V → Evaluation W Stopped) (events : List Event) →
    ((m >>= f) >>= g) events ≡ (m >>= λ u. f u >>= g) events
bind-assoc m f g events = regrouped (m events).events (m events).ending f g

-- what comes behind a part, at each of its values
behind : {V W : Type 0} (es : List Event) (x : Ending V Stopped) (f g : V → Evaluation W Stopped) → ((v : V) (events : List Event) → f v events ≡ g v events) → bind es x f ≡ bind es x g
behind es (Value v) f g h = h v es
behind es (Stop c) f g h = refl

pub bind-behind : {V W : Type 0} (m : Evaluation V Stopped) (f g : V → Evaluation W Stopped) → ((v : V) (events : List Event) → f v events ≡ g v events) → (events : List Event) →
    (m >>= f) events ≡ (m >>= g) events
bind-behind m f g h events = behind (m events).events (m events).ending f g h
