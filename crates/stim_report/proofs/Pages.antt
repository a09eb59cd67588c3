-- What is written in turn, and the room that is left for it.
use Rattle.std.proofs.Common.{ℕ, List, [], ◌∷◌, ◌++◌, length, length-append, refl, sym, ap, ◌∙◌, append_assoc, append-nil, arith}
use Rattle.kw_bits.specs.Reserved.{ReservedList}
use Rattle.stim_report.specs.inner.Pages.{HasRoom, Gains, Leaves}

-- what is written first has room
pub room_first : {page : ReservedList ℕ} {xs : List ℕ} (ys : List ℕ) → HasRoom page (xs ++ ys) → HasRoom page xs
room_first {page} {xs} ys h = record { room = omega (arith, h.room, length-append xs ys) }

-- and so has what is written behind it
pub room_next : {old : ReservedList ℕ} (new : ReservedList ℕ) (xs : List ℕ) {ys : List ℕ} → Gains old new xs → HasRoom old (xs ++ ys) → HasRoom new ys
room_next {old} new xs {ys} g h =
    record { room = omega (arith, h.room, length-append xs ys, length-append old.items xs, ap length g.items, g.capacity) }

-- one after the other
pub in_turn : {old mid new : ReservedList ℕ} {xs ys : List ℕ} → Gains old mid xs → Gains mid new ys → Gains old new (xs ++ ys)
in_turn {old} {mid} {new} {xs} {ys} p q = record {
  items = q.items ∙ ap (λ t. t ++ ys) p.items ∙ append_assoc old.items xs ys;
  capacity = q.capacity ∙ p.capacity;
}

-- a byte first
pub room_byte : {page : ReservedList ℕ} {x : ℕ} (ys : List ℕ) → HasRoom page (x ∷ ys) → HasRoom page (x ∷ [])
room_byte {page} {x} ys h = room_first {xs = x ∷ []} ys h

pub room_behind_byte : {old new : ReservedList ℕ} {x : ℕ} {ys : List ℕ} → Gains old new (x ∷ []) → HasRoom old (x ∷ ys) → HasRoom new ys
room_behind_byte {old} {new} {x} {ys} g h = room_next new (x ∷ []) {ys = ys} g h

pub byte_first : {old mid new : ReservedList ℕ} {x : ℕ} {ys : List ℕ} → Gains old mid (x ∷ []) → Gains mid new ys → Gains old new (x ∷ ys)
byte_first {old} {mid} {new} {x} {ys} p q = in_turn {xs = x ∷ []} {ys = ys} p q

-- nothing is written
pub nothing : (page : ReservedList ℕ) → Gains page page []
nothing page = record { items = sym (append-nil page.items); capacity = refl }

-- at the begin all is left
pub all_left : (page : ReservedList ℕ) (whole : List ℕ) → Leaves page whole page whole
all_left page whole = record { items = refl; capacity = refl }

-- where nothing is left, all was written
pub none_left : {old now : ReservedList ℕ} {whole : List ℕ} → Leaves old whole now [] → Gains old now whole
none_left {old} {now} {whole} h = record { items = sym (append-nil now.items) ∙ h.items; capacity = h.capacity }

-- a part of what is left is written
pub goes_on : {old now next : ReservedList ℕ} {whole xs ys : List ℕ} → Leaves old whole now (xs ++ ys) → Gains now next xs → Leaves old whole next ys
goes_on {old} {now} {next} {whole} {xs} {ys} h g = record {
  items = ap (λ t. t ++ ys) g.items ∙ append_assoc now.items xs ys ∙ h.items;
  capacity = g.capacity ∙ h.capacity;
}

-- what is left has room
pub room_left : {old now : ReservedList ℕ} {whole rest : List ℕ} → HasRoom old whole → Leaves old whole now rest → HasRoom now rest
room_left {old} {now} {whole} {rest} h l =
    record { room = omega (arith, h.room, length-append now.items rest, length-append old.items whole, ap length l.items, l.capacity) }

pub ruleset pages = (room_byte, room_first, room_behind_byte, room_next, byte_first, in_turn, nothing)
