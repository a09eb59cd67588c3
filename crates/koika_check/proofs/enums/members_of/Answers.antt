use Rattle.std.proofs.Common.{ℕ, List, [], ◌∷◌, ◌++◌, ◌∙◌, ap, sym, refl, length, arith}
use Rattle.std.proofs.lemmas.List.{length-append, length-map, map-append}
use Rattle.std.proofs.lemmas.Result.{err_from_is_err_and}
use Rattle.kw_base.specs.Names.{number_of}
use Rattle.koika_types.specs.declared.declarations.Member.{Member}
use Rattle.koika_check.specs.Declarations.{add_member, names_of_members, other_name}
use Rattle.koika_check.specs.Outcomes.{Gives, ◌>>=◌}
use Rattle.koika_check.proofs.Answering.{ends, step-err, step-ok}
use Rattle.koika_check.proofs.enums.members_of.Goals as goal

pub returns-in_err-add_part-clause-answers : goal.returns-in_err-add_part-clause-answers
returns-in_err-add_part-clause-answers c =
    let p = err_from_is_err_and c.from_residual.result c.from_residual.ensures.1 in
    let m = c.index-members-index.result in
    let kept = c.loop-index.kept in
    let count = length-map kept (λ (x : Member). x.name) ∙ c.loop-index.invariant.count in
    rw (p.1, p.2)
    (step-err add_member c.args.members.now c.loop-index.index m kept [] _ c.loop-index-test.true c.index-members-index.is c.loop-index.invariant.rest
    (ends (add_member m kept) (other_name (names_of_members kept) m.name) (λ name. Gives (kept ++ (let one : Member = record { name = name; bits = m.value.bits } in one) ∷ [])) _ refl
    (c.in_err-add_part.ensures.answers (names_of_members kept) c.loop-index.invariant.lists count)))

pub loop-index-preserved : goal.loop-index-preserved
loop-index-preserved c =
    let m = c.index-members-index.result in
    let kept = c.loop-index.kept in
    let count = length-map kept (λ (x : Member). x.name) ∙ c.loop-index.invariant.count in
    let added = c.in_ok-add_part.ensures.answers (names_of_members kept) c.loop-index.invariant.lists count in
    let text = c.in_ok-text.ensures ∙ c.as_slice.ensures in
    let make = λ (n : List ℕ). let one : Member = record { name = n; bits = m.value.bits } in one in
    record {
      parts = c.in_ok-add_part.ensures.kept;
      keeps = λ other name ne. c.in_ok-add_part.ensures.keeps other name ne ∙ c.loop-index.invariant.keeps other name ne;
      lists = λ name. added.2.1 name ∙ ap (λ (n : List ℕ). number_of (names_of_members kept ++ n ∷ []) name) (sym text)
          ∙ ap (λ (ns : List (List ℕ)). number_of ns name) (sym (map-append (λ (x : Member). x.name) kept (make c.in_ok-text.text ∷ []))) ∙ ap (λ (ms : List Member). number_of (names_of_members ms) name) (sym c.in_ok-push.ensures.ok);
      count = omega (arith, ap length c.in_ok-push.ensures.ok, length-append {A = Member}, c.loop-index.invariant.count);
      rest = step-ok add_member c.args.members.now c.loop-index.index m kept c.push.new.self [] c.loop-index-test.true c.index-members-index.is c.loop-index.invariant.rest
          (ap (λ o. o >>= λ name. Gives (kept ++ make name ∷ [])) added.1 ∙ ap (λ (n : List ℕ). Gives (kept ++ make n ∷ [])) (added.2.0 ∙ sym text) ∙ ap Gives (sym c.in_ok-push.ensures.ok));
    }
