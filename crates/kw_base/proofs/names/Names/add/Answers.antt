use Rattle.std.proofs.Common.{◌≡◌, [], ◌∷◌, ◌++◌, None, sym, ◌∙◌, ap, map, length, length-append, arith}
use Rattle.std.specs.Str.{bytes_eq}
use Rattle.kw_base.specs.Names.{number_of, AreNumbered}
use Rattle.kw_base.proofs.Numbering.{length-map, map-insert_key-absent, AllPairs-map}
use Rattle.kw_base.proofs.names.Names.add.Goals as goal

absent : (c : goal.In_ok-insert) → number_of c.args.self.now c.args.name.now ≡ None
absent c = sym c.find.ensures.number ∙ c.in_default.is

-- the bytes of the names after the new one was stored
names_after : (c : goal.In_ok-insert) → map (λ name. name.items) c.insert.new.self.keys ≡ c.args.self.now ++ c.args.name.now ∷ []
names_after c =
    let stored = c.in_ok-from_slice.field-0 in
    let items : stored.items ≡ c.args.name.now = c.in_ok-from_slice.ensures.items in
    let absent_inside : number_of (map (λ name. name.items) c.self.inside.seen.keys) stored.items ≡ None = rw (c.self.view_is, items) (absent c) in
    ap (map (λ name. name.items)) c.in_ok-insert.ensures.keys ∙ map-insert_key-absent _ bytes_eq c.self.inside.seen.keys stored absent_inside ∙ rw (c.self.view_is, items)

numbered : (c : goal.In_ok-insert) → AreNumbered (map (λ name. name.items) c.insert.new.self.keys)
numbered c = record {
  distinct = AllPairs-map (λ name. name.items) c.insert.new.self.keys c.in_ok-insert.ensures.unique;
  few = omega (arith, ap length (names_after c), length-append c.args.self.now (c.args.name.now ∷ []));
}

pub returns-clause-numbered : goal.returns-clause-numbered
returns-clause-numbered c = numbered c

pub returns-clause-adds : goal.returns-clause-adds
returns-clause-adds c =
    (absent c, c.len-number.ensures.len ∙ sym (length-map _ c.self.inside.seen.keys) ∙ ap length c.self.view_is, names_after c)

pub invariant_of-self-2 : goal.invariant_of-self-2
invariant_of-self-2 c = numbered c
