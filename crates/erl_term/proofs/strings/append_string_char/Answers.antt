-- A backslash first, where the character needs it.
use Rattle.std.proofs.Common.{◌≡◌, [], ◌∷◌, ◌⊎◌, inl, inr, sym}
use Rattle.erl_term.specs.Text.{utf8, string_char}
use Rattle.erl_term.proofs.Appending.{renamed}
use Rattle.erl_term.proofs.Texts.{string-escaped-bytes, string-plain-bytes}
use Rattle.erl_term.proofs.strings.append_string_char.Goals as goal

pub returns-then-c-eq92 : goal.returns-then-c-eq92
returns-then-c-eq92 c =
    let ch = c.args.c in
    let either : (ch ≡ 34) ⊎ (ch ≡ 92) = elim c.if-c-eq92.either [ inl is ↦ inl is | inr is ↦ inr is.1 ] in
    renamed c.put.result c.args.out.now.items c.put.new.out.items (92 ∷ ch ∷ []) (utf8 (string_char ch)) c.put.ensures (sym (string-escaped-bytes ch either))

pub returns-else-c-eq92 : goal.returns-else-c-eq92
returns-else-c-eq92 c =
    let ch = c.args.c in
    renamed c.put_char.result c.args.out.now.items c.put_char.new.out.items (utf8 (ch ∷ [])) (utf8 (string_char ch)) c.put_char.ensures (string-plain-bytes ch c.if-c-eq92.false.0 c.if-c-eq92.false.1)
