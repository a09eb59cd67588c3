use Rattle.std.proofs.Common.{◌∙◌, ◌∷◌, sym}
use Rattle.koika_check.specs.inner.Checking.{arrays_of, scope_of}
use Rattle.koika_check.specs.Types.{type_of}
use Rattle.koika_check.proofs.Declaring.{known-stands, named-as}
use Rattle.koika_check.proofs.Growth.{grows-refl}
use Rattle.koika_check.proofs.Parameters.{bound-kept, local, locals-push, parameter-chain, parameters-push}
use Rattle.koika_check.proofs.checker.Checker.parameter.Goals as goal

pub returns-clause-kept : goal.returns-clause-kept
returns-clause-kept c =
    let s = c.named_type.new.self in
    let stands = known-stands s s (grows-refl s) c.in_ok-of.of (type_of c.args.self.now.design c.args.parameter.now.of) c.in_ok-of.ensures.tells in
    bound-kept s c.in_ok-of.ensures.kept c.bind.new.self c.in_ok-of.of.shape stands.1 c.in_ok-bind.ensures.kept c.in_ok-bind.ensures.shapes

pub returns-clause-bound : goal.returns-clause-bound
returns-clause-bound c =
    let s = c.named_type.new.self in
    let of = c.in_ok-of.of in
    let stands = known-stands s s (grows-refl s) of (type_of c.args.self.now.design c.args.parameter.now.of) c.in_ok-of.ensures.tells in
    rw (c.in_ok-push.ensures.ok, c.in_ok-push-2.ensures.ok)
    (parameters-push c.args.self.now s c.bind.new.self c.args.all.now c.as_slice.result.now of.shape of.of c.requires.checker c.requires.bound c.in_ok-of.ensures.grows c.in_ok-of.ensures.locals stands
    (c.in_ok-bind.ensures.bound (arrays_of s)) c.in_ok-bind.ensures.shapes)

pub returns-clause-answers : goal.returns-clause-answers
returns-clause-answers c =
    let a = c.args.self.now in
    let s = c.named_type.new.self in
    let f = c.args.parameter.now in
    let new = c.in_ok-is_unbound.ensures in
    let named = named-as s c.in_ok-of.of (type_of a.design f.of) c.in_ok-of.ensures.tells in
    let stands = known-stands s s (grows-refl s) c.in_ok-of.of (type_of a.design f.of) c.in_ok-of.ensures.tells in (
      local f.name.text named.0 ∷ (scope_of a).locals,
      parameter-chain a.design f (scope_of a).locals new.0 named.0 new.1 new.2 named.1,
      locals-push a s c.bind.new.self f.name.text c.as_slice.result.now c.in_ok-of.of.shape named.0 c.requires.checker c.in_ok-of.ensures.grows c.in_ok-of.ensures.locals c.as_slice.ensures (sym named.2 ∙ stands.0)
          (c.in_ok-bind.ensures.bound (arrays_of s)),
    )
