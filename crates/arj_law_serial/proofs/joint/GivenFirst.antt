-- The first value of an object of the header is in form.
use Rattle.arj_law_parts.proofs.Words
use Words.{◌≡◌, ◌<◌, ◌==◌, ℕ, true, Option, Some, None, refl, arith, ValueInForm, Value, Header, ObjectLine, in_find, own_class}
use Words.value
use Rattle.arj_law_serial.proofs.Terms.{HeaderFits, first_values, object_line, value_of_line}
use Rattle.arj_base.specs.State.{is_object_class}
use Rattle.arj_law_serial.proofs.joint.Firsts.{form_of, line_in}
use Rattle.arj_text.proofs.Values.{value_in_form}

pub first_in_form : (hd : Header) (x : ℕ) → HeaderFits hd → ValueInForm (first_values hd x)
first_in_form hd x form = by (object_line hd x) refl
  where
    by : (q : Option ObjectLine) → object_line hd x ≡ q → ValueInForm (value_of_line q)
    by None none = let zero_fits : 0 < 18446744073709551616 = omega arith in zero_fits
    by (Some o) found =
        let l = line_in o hd.objects (in_find (λ (p : ObjectLine). p.x == x) o hd.objects found).0 in
        value_in_form o.value (let f = form_of hd.nodes o hd.objects (let os = form.objects in os.0) l in f.value)

-- so its own class is one of objects
pub first_is_object : (hd : Header) (x : ℕ) → HeaderFits hd → is_object_class (own_class (first_values hd x)) ≡ true
first_is_object hd x form = by (first_values hd x) (first_in_form hd x form)
  where
    by : (v : Value) → ValueInForm v → is_object_class (own_class v) ≡ true
    by (value.Gone c) fits = fits
    by _ fits = refl
