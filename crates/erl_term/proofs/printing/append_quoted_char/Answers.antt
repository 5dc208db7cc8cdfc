-- Each kind of character by its bytes.
use Rattle.std.proofs.Common.{[], ◌∷◌, ◌++◌, codes, ◌⊎◌, inl, inr, ◌<◌, ◌≡◌, sym}
use Rattle.erl_term.specs.Text.{utf8, hex, quoted_char}
use Rattle.erl_term.proofs.Appending.{renamed}
use Rattle.erl_term.proofs.Texts.{escaped-bytes, plain-bytes, control-bytes}
use Rattle.erl_term.proofs.printing.append_quoted_char.Goals as goal

pub returns-then-c-eq92 : goal.returns-then-c-eq92
returns-then-c-eq92 c =
    let ch = c.args.c in
    let either : (ch ≡ 39) ⊎ (ch ≡ 92) = elim c.if-c-eq92.either [ inl is ↦ inl is | inr is ↦ inr is.1 ] in
    renamed c.put.result c.args.out.now.items c.put.new.out.items (92 ∷ ch ∷ []) (utf8 (quoted_char ch)) c.put.ensures (sym (escaped-bytes ch either))

pub returns-then-c-eq127 : goal.returns-then-c-eq127
returns-then-c-eq127 c =
    let ch = c.args.c in
    let either : (ch < 32) ⊎ (ch ≡ 127) = elim c.if-c-eq127.either [ inl below ↦ inl below | inr is ↦ inr is.1 ] in
    renamed c.append_control.result c.args.out.now.items c.append_control.new.out.items (codes "\\x{" ++ (hex ch ++ 125 ∷ [])) (utf8 (quoted_char ch)) c.append_control.ensures (sym (control-bytes ch c.if-c-eq92.false.0 c.if-c-eq92.false.1 either))

pub returns-else-c-eq127 : goal.returns-else-c-eq127
returns-else-c-eq127 c =
    let ch = c.args.c in
    renamed c.put_char.result c.args.out.now.items c.put_char.new.out.items (utf8 (ch ∷ [])) (utf8 (quoted_char ch)) c.put_char.ensures (plain-bytes ch c.if-c-eq92.false.0 c.if-c-eq92.false.1 c.if-c-eq127.false.0 c.if-c-eq127.false.1)
