-- Values that calls of readable lines leave are in form.
use Rattle.std.proofs.Common.{◌≡◌, ◌==◌, ℕ, Bool, true, false, if◌then◌else◌, List, [], ◌∷◌}
use Rattle.std.specs.List.{AllByRecursion}
use Rattle.arj_class.proofs.Keeping.{class_kept}
use Rattle.arj_class.specs.Table.{own_class, value_after}
use Rattle.arj_law_serial.proofs.joint.GivenBytes.{after_text}
use Rattle.arj_model.specs.Calls.{Call}
use Rattle.arj_model.specs.Serial.{Values, run, with_value}
use Rattle.arj_text.specs.Fields.{OpTextInForm, ValueTextInForm}
use Rattle.std.proofs.Common.{refl, sym, ap, ◌∙◌, eqb-true}

-- a call's operation is in form
abbrev pub IsOpInForm : Call → Type 0
IsOpInForm c = OpTextInForm c.op

-- calls of operations in form leave values that a text can say
pub run_text : (values : Values) (cs : List Call) → AllByRecursion IsOpInForm cs → ((x : ℕ) → ValueTextInForm (values x)) → (x : ℕ) →
    ValueTextInForm (run values cs x)
run_text values [] ops each x = each x
run_text values (c ∷ cs) ops each x = run_text (with_value values c.x (value_after c.op (values c.x))) cs ops.1 one x
  where
    one : (y : ℕ) → ValueTextInForm (with_value values c.x (value_after c.op (values c.x)) y)
    one y = by (y == c.x)
      where
        by : (b : Bool) → ValueTextInForm (if b then value_after c.op (values c.x) else values y)
        by true = after_text c.op (values c.x) ops.0 (each c.x)
        by false = each y

-- calls leave values of the same classes
pub run_class : (values : Values) (cs : List Call) (x : ℕ) → own_class (run values cs x) ≡ own_class (values x)
run_class values [] x = refl
run_class values (c ∷ cs) x = run_class (with_value values c.x (value_after c.op (values c.x))) cs x ∙ by (x == c.x) refl
  where
    by : (b : Bool) → (x == c.x) ≡ b → own_class (if b then value_after c.op (values c.x) else values x) ≡ own_class (values x)
    by true e = class_kept c.op (values c.x) ∙ ap (λ y. own_class (values y)) (sym (eqb-true x c.x e))
    by false e = refl
