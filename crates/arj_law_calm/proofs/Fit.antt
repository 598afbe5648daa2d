-- The header that goes on fits, where each object has listed stores that are nodes.
use Rattle.std.proofs.Common.{◌≡◌, ◌≤◌, ◌&&◌, ℕ, List, [], ◌∷◌, map, length, true, nat_lt, nat_le, refl, ◌∙◌, arith, le-leb}
use Rattle.std.specs.List.{AllByRecursion, list_all}
use Rattle.arj_journal.specs.ScriptForm.{HeaderInForm, ObjectLineInForm, are_by_number}
use Rattle.arj_journal.specs.declared.body.Line.{Line}
use Rattle.arj_journal.specs.declared.header.Header.{Header}
use Rattle.arj_journal.specs.declared.header.ObjectLine.{ObjectLine}
use Rattle.arj_journal.specs.declared.limits.TheConstants.{STORES}
use Rattle.arj_model.specs.Last.{first_values, listed}
use Rattle.arj_model.specs.Serial.{run, serial_calls}
use Rattle.arj_promise.specs.Runs.{HeaderFits}
use Rattle.arj_text.specs.Fields.{IsWithin, NodesInForm, ValueTextInForm, is_distinct}
use Rattle.arj_law_calm.proofs.Few.{distinct_few}
use Rattle.arj_law_calm.specs.Next.{next_header, next_object}

-- distinct nodes, of which there is one, are nodes in form
pub nodes_in_form : (n : ℕ) (ns : List ℕ) → n ≤ STORES → 1 ≤ length ns → AllByRecursion (IsWithin 1 n) ns → is_distinct ns ≡ true →
    NodesInForm n STORES ns
nodes_in_form n ns most some within once =
    let few : length ns ≤ STORES = (let le = distinct_few n ns within once in omega (arith, le, most)) in
    let one : nat_le 1 (length ns) ≡ true = le-leb 1 (length ns) some in
    let short : nat_le (length ns) STORES ≡ true = le-leb (length ns) STORES few in
    λ i. (one i && short i) && (each ns within i && once i)
  where
    each : (ms : List ℕ) → AllByRecursion (IsWithin 1 n) ms → list_all (λ (m : ℕ). nat_le 1 m && nat_le m n) ms ≡ true
    each [] all = refl
    each (m ∷ ms) all = λ i. (le-leb 1 m all.0.0 i && le-leb m n all.0.1 i) && each ms all.1 i

module _ (header : Header) (lines : List Line) (form : HeaderInForm header)
    (values : (x : ℕ) → ValueTextInForm (run (first_values header) (serial_calls lines) x)) where
  lines_fit : (os : List ObjectLine) → AllByRecursion (ObjectLineInForm header.nodes) os →
      AllByRecursion (λ (o : ObjectLine). NodesInForm header.nodes STORES (listed header lines o.x)) os →
      AllByRecursion (ObjectLineInForm header.nodes) (map (next_object header lines) os)
  lines_fit [] forms stores = tt
  lines_fit (o ∷ os) forms stores = (
    (let f = forms.0 in record { number = f.number; value = values o.x; servers = f.servers; stores = stores.0 }),
    lines_fit os forms.1 stores.1,
  )

  by_number : (os : List ObjectLine) → are_by_number (map (next_object header lines) os) ≡ are_by_number os
  by_number [] = refl
  by_number (o ∷ []) = refl
  by_number (o ∷ p ∷ os) = λ i. nat_lt o.x p.x && by_number (p ∷ os) i

  pub fits : AllByRecursion (λ (o : ObjectLine). NodesInForm header.nodes STORES (listed header lines o.x)) header.objects →
      HeaderFits (next_header header lines)
  fits stores = record {
    nodes = form.nodes;
    objects = (
      lines_fit header.objects (let os = form.objects in os.0) stores,
      by_number header.objects ∙ (let os = form.objects in os.1),
    );
  }
