-- A text spells the key that is found, and where none is, no module has its characters.
use Rattle.std.proofs.Common.{◌≡◌, Bool, List, [], ◌∷◌, None, subst, refl, sym, ◌∙◌}
use Rattle.std.specs.Map.{lookup}
use Rattle.std.specs.Str.{bytes_eq, chars}
use Rattle.std.proofs.lemmas.Map.Made.{lookup_key_passes}
use Rattle.erl_term.proofs.Spelled.{spells-chars}
use Rattle.erl_term.specs.Spelling.{spells}
use Rattle.erl_term.specs.SpellingLaws.{spells-Decides}
use Rattle.code_server.specs.Modules.{slots_of}
use Rattle.code_server.proofs.modules.Modules.find.Goals as goal

-- tests that agree on every key find the same
same_found : {K X : Type 0} (p q : K → Bool) → ((k : K) → p k ≡ q k) → (es : List (K × X)) → lookup p es ≡ lookup q es
same_found p q agree [] = refl
same_found p q agree (e ∷ es) = rw (agree e.0, same_found p q agree es) refl

pub returns-in-None : goal.returns-in-None
returns-in-None g c =
    let text = c.args.text.now in
    let entries = c.self.inside.table.entries in
    let none = sym (same_found (spells text) (bytes_eq (chars text)) (λ name. spells-chars text name c.utf8.text) entries) ∙ sym c.in-None.ensures.value in
    subst (λ t. slots_of (chars text) t ≡ None) c.self.view_is none

pub returns-in-Some : goal.returns-in-Some
returns-in-Some g c =
    let found = lookup_key_passes (spells c.args.text.now) c.self.inside.table.entries c.in-Some.name.now (sym c.in-Some.ensures.key) in
    sym ((spells-Decides c.args.text.now c.in-Some.name.now).0 found).0
