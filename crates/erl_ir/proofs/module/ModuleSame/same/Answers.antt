-- Equal bytes, and they tell the module.
use Rattle.std.proofs.Common.{◌≡◌, ◌↔◌, IsTrue, sym, ap, ◌∙◌, rules}
use Rattle.erl_ir.specs.declared.module.Parts.{Parts}
use Rattle.erl_ir.specs.FormsCode.{forms_bytes}
use Rattle.erl_ir.proofs.ModuleBytes.{bytes_tell}
use Rattle.erl_ir.proofs.module.ModuleSame.same.Goals as goal

pub returns : goal.returns
returns c =
    let alike : IsTrue c.eq.result ↔ (c.as_slice.result.now ≡ c.as_slice-2.result.now) = search rules in
    let one : c.as_slice.result.now ≡ forms_bytes c.args.self.now =
    c.as_slice.ensures.value ∙ ap (λ (p : Parts). p.bytes.items) c.deref.ensures ∙ c.self.invariant.2 ∙ ap forms_bytes c.self.view_is in
    let other : c.as_slice-2.result.now ≡ forms_bytes c.args.other.now =
    c.as_slice-2.ensures.value ∙ ap (λ (p : Parts). p.bytes.items) c.deref-2.ensures ∙ c.other.invariant.2 ∙ ap forms_bytes c.other.view_is in (
      λ equal. bytes_tell c.args.self.now c.args.other.now (sym one ∙ alike.0 equal ∙ other),
      λ same. alike.1 (one ∙ ap forms_bytes same ∙ sym other),
    )
