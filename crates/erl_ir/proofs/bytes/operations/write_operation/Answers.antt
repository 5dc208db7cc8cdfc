-- One byte, or those of a pair.
use Rattle.std.proofs.Common.{◌≡◌, ◌+◌, ◌<◌, [], ◌∷◌, ◌++◌, sym, ap, ◌∙◌, refl, arith, lit<}
use base.Stored.{gnum, gcons}
use Rattle.erl_term.specs.TreeCode.{chars_code}
use Rattle.erl_ir.specs.ModuleBytes.{written}
use Rattle.erl_ir.specs.OperationCode.{built_in_number, operation_code, operator_number}
use Rattle.erl_ir.proofs.Written.{both_is, chars-parts, front_is, last_front, like}
use Rattle.erl_ir.proofs.bytes.operations.write_operation.Goals as goal

pub returns-in_ok-push-in-Tuple : goal.returns-in_ok-push-in-Tuple
returns-in_ok-push-in-Tuple c =
    λ g. ap (λ o. written (gcons (operation_code o) g) c.args.out.now.items) c.in-Tuple.is ∙ sym (front_is 0 (g) c.args.out.now.items c.push.new.self.items (lit< tt) c.in_ok-push-in-Tuple.ensures.items)

pub returns-in_ok-push-in-List : goal.returns-in_ok-push-in-List
returns-in_ok-push-in-List c =
    λ g. ap (λ o. written (gcons (operation_code o) g) c.args.out.now.items) c.in-List.is ∙ sym (front_is 1 (g) c.args.out.now.items c.push-in-List.new.self.items (lit< tt) c.in_ok-push-in-List.ensures.items)

pub returns-in_ok-push-in-Cons : goal.returns-in_ok-push-in-Cons
returns-in_ok-push-in-Cons c =
    λ g. ap (λ o. written (gcons (operation_code o) g) c.args.out.now.items) c.in-Cons.is ∙ sym (front_is 2 (g) c.args.out.now.items c.push-in-Cons.new.self.items (lit< tt) c.in_ok-push-in-Cons.ensures.items)

pub returns-in_ok-push-in-Operator : goal.returns-in_ok-push-in-Operator
returns-in_ok-push-in-Operator c =
    let value : 128 + 3 + c.operator_index.result ≡ 3 + operator_number c.in-Operator.operator + 128 = omega (arith, c.operator_index.ensures.value) in
    let small : 3 + operator_number c.in-Operator.operator < 128 = omega (arith, c.operator_index.ensures.value, c.operator_index.ensures.bound) in
    λ g. ap (λ o. written (gcons (operation_code o) g) c.args.out.now.items) c.in-Operator.is ∙ sym (front_is (3 + operator_number c.in-Operator.operator) (g) c.args.out.now.items c.push-in-Operator.new.self.items small (c.in_ok-push-in-Operator.ensures.items ∙ ap (λ n. c.args.out.now.items ++ n ∷ []) value))

pub returns-in_ok-push-in-BuiltIn-2 : goal.returns-in_ok-push-in-BuiltIn-2
returns-in_ok-push-in-BuiltIn-2 c =
    let value : 128 + 2 + c.built_in_index.result ≡ 2 + built_in_number c.in-BuiltIn.function + 128 = omega (arith, c.built_in_index.ensures.value) in
    let small : 2 + built_in_number c.in-BuiltIn.function < 128 = omega (arith, c.built_in_index.ensures.value, c.built_in_index.ensures.bound) in
    last_front c.write_number.result (operation_code c.args.operation.now) (gnum c.from.result) c.write_number.new.out.items c.push-in-BuiltIn-2.new.self.items c.args.out.now.items
    (λ g. ap (written g) (front_is (2 + built_in_number c.in-BuiltIn.function) (gnum c.from.result) c.push-in-BuiltIn.new.self.items c.push-in-BuiltIn-2.new.self.items small (c.in_ok-push-in-BuiltIn-2.ensures.items ∙ ap (λ n. c.push-in-BuiltIn.new.self.items ++ n ∷ []) value)) ∙
    both_is (gcons (gnum (2 + built_in_number c.in-BuiltIn.function)) (gnum c.from.result)) g c.args.out.now.items c.push-in-BuiltIn.new.self.items (written (gcons (gnum (2 + built_in_number c.in-BuiltIn.function)) (gnum c.from.result)) c.push-in-BuiltIn.new.self.items) tt c.in_ok-push-in-BuiltIn.ensures.items refl ∙
    like (gcons (gcons (gnum (2 + built_in_number c.in-BuiltIn.function)) (gnum c.from.result)) g) (gcons (operation_code c.args.operation.now) g) c.args.out.now.items (ap (λ o. gcons o g)
    (ap (λ n. gcons (gnum (2 + built_in_number c.in-BuiltIn.function)) (gnum n)) (c.from.ensures ∙ c.flag_number.ensures.value) ∙ sym (ap (λ o. operation_code o) c.in-BuiltIn.is))))
    c.write_number.ensures

pub returns-in_ok-push-in-Local-2 : goal.returns-in_ok-push-in-Local-2
returns-in_ok-push-in-Local-2 c =
    last_front c.write_name.result (operation_code c.args.operation.now) (chars_code c.in-Local.name) c.write_name.new.out.items c.push-in-Local-2.new.self.items c.args.out.now.items
    (λ g. ap (written g) (front_is 0 (chars_code c.in-Local.name) c.push-in-Local.new.self.items c.push-in-Local-2.new.self.items (lit< tt) c.in_ok-push-in-Local-2.ensures.items) ∙
    both_is (gcons (gnum 0) (chars_code c.in-Local.name)) g c.args.out.now.items c.push-in-Local.new.self.items (written (gcons (gnum 0) (chars_code c.in-Local.name)) c.push-in-Local.new.self.items) tt c.in_ok-push-in-Local.ensures.items refl ∙
    like (gcons (gcons (gnum 0) (chars_code c.in-Local.name)) g) (gcons (operation_code c.args.operation.now) g) c.args.out.now.items (ap (λ o. gcons o g) (sym (ap (λ o. operation_code o) c.in-Local.is))))
    c.write_name.ensures

pub returns-in_ok-write_name-in-Remote : goal.returns-in_ok-write_name-in-Remote
returns-in_ok-write_name-in-Remote c =
    last_front c.write_name-in-Remote-2.result (operation_code c.args.operation.now) (chars_code c.in-Remote.function) c.write_name-in-Remote-2.new.out.items c.write_name-in-Remote.new.out.items c.args.out.now.items
    (λ g. ap (written g) (both_is (chars_code c.in-Remote.module) (chars_code c.in-Remote.function) c.push-in-Remote-2.new.self.items c.push-in-Remote-3.new.self.items c.write_name-in-Remote.new.out.items (chars-parts c.in-Remote.module) c.in_ok-push-in-Remote-3.ensures.items c.in_ok-write_name-in-Remote.ensures ∙
    front_is 1 (gcons (chars_code c.in-Remote.module) (chars_code c.in-Remote.function)) c.push-in-Remote.new.self.items c.push-in-Remote-2.new.self.items (lit< tt) c.in_ok-push-in-Remote-2.ensures.items) ∙
    both_is (gcons (gnum 1) (gcons (chars_code c.in-Remote.module) (chars_code c.in-Remote.function))) g c.args.out.now.items c.push-in-Remote.new.self.items (written (gcons (gnum 1) (gcons (chars_code c.in-Remote.module) (chars_code c.in-Remote.function))) c.push-in-Remote.new.self.items) tt c.in_ok-push-in-Remote.ensures.items refl ∙
    like (gcons (gcons (gnum 1) (gcons (chars_code c.in-Remote.module) (chars_code c.in-Remote.function))) g) (gcons (operation_code c.args.operation.now) g) c.args.out.now.items (ap (λ o. gcons o g) (sym (ap (λ o. operation_code o) c.in-Remote.is))))
    c.write_name-in-Remote-2.ensures
