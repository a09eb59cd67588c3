use Rattle.std.proofs.Common.{[], ◌∷◌, drop, None, sym, ap, refl, arith, length, length-drop}
use Rattle.std.proofs.lemmas.Bool.Decides.{Decides-eqb}
use Rattle.std.proofs.lemmas.List.{append-nil}
use Rattle.std.proofs.lemmas.List.Sums.{prefix_len-le-length}
use Rattle.std.proofs.lemmas.Slice.Eq.{starts_is}
use Rattle.koika_syntax.specs.Lexemes.{stays_on_line}
use Rattle.koika_syntax.proofs.Fronts.{text_begins_comment}
use Rattle.koika_syntax.proofs.lexer.read_at.Goals as goal

pub overflow_add-result : goal.overflow_add-result
overflow_add-result c =
    let behind = c.behind-behind.result.now in
    omega (arith, prefix_len-le-length stays_on_line behind, c.line_len.ensures, ap length c.behind-behind.ensures, length-drop c.args.offset c.args.text.now)

pub returns-then-starts_with-clause-read : goal.returns-then-starts_with-clause-read
returns-then-starts_with-clause-read c =
    let behind = c.behind-behind.result.now in
    let slashes = starts_is Decides-eqb behind (47 ∷ 47 ∷ []) c.starts_with.result c.starts_with.ensures.value in
    let comment = text_begins_comment behind (drop 2 behind) (slashes.0 c.if-starts_with.true) in
    record {
      token = None;
      len = c.line_len.result;
      begins = rw (← c.behind-behind.ensures, c.line_len.ensures) comment;
      end_is = refl;
      tokens = sym (append-nil c.args.tokens.now.items);
    }
