-- Lines that say Uids of actions which began are in form: of each the number, the incarnation and the node fit their bytes.
use Rattle.arj_law_parts.proofs.Words
use Words.{◌≡◌, ◌≤◌, ◌<◌, ◌||◌, ℕ, List, [], ◌∷◌, Bool, true, false, refl, sym, subst, arith, inl, inr, AllByRecursion}
use Words.{In, in_to, uid_eq, uid_is, Body, Header, Line, Uid, is_on, world_by}
use Words.body
use Words.ending
use Rattle.arj_law_promise.proofs.Terms.{AreAddressed, IsNode, kept, moves_asked}
use Rattle.arj_base.specs.Uid.{UidFits}
use Rattle.arj_journal.specs.LineForm.{BodyInForm, LineInForm}
use Rattle.arj_law_promise.proofs.rooms.Incs.{incs_next}
use Rattle.arj_law_promise.specs.rooms.Actions.{FreshHasIncs, HasIncs, RunsSayActions, is_of_action}
use Rattle.arj_law_promise.specs.rooms.Incs.{last_inc}
use Rattle.arj_law_runs.proofs.addresses.Runs.{lines_name}
use Rattle.arj_law_runs.proofs.calls.Reaching.{moves_keep}
use Rattle.arj_law_runs.proofs.forms.{Labels.acts_less, Labels.runs_say_labels, Numbers.runs_number_actions, World.node_form}
use Rattle.arj_law_runs.proofs.forms.World.{runs_say_in_form}
use Rattle.arj_law_runs.proofs.journal.{Books.Sane, Books.sane_new, Books.sane_turn, Models.its_acts, Runs.kept_right}
use Rattle.arj_law_runs.specs.addresses.Addresses.{SaysOf}
use Rattle.arj_law_runs.specs.forms.Labels.{LabelsInForm}
use Rattle.arj_law_runs.specs.forms.Numbers.{IsNumberedSo}
use Rattle.arj_law_runs.specs.forms.World.{IsSaidInForm}
use Rattle.arj_law_runs.specs.journal.Book.{Book, book_from, is_decided, new_book, turned}
use Rattle.arj_law_runs.specs.journal.Right.{AreRight, Right, has_act}
use Rattle.arj_model.specs.Actions.{Act, acts}
use Rattle.arj_promise.specs.Runs.{HeaderFits, IsInForm, Run}

-- ---- Uids

abbrev ActFits : Act → Type 0
ActFits a = UidFits a.uid

-- an action of a run in form
act_fits : (hd : Header) (r : Run hd) → IsInForm hd r → HasIncs r.start → (a : Act) → IsNumberedSo (world_by hd r) a → ActFits a
act_fits hd r form has a so =
    let o = so.0 in
    let h = moves_asked hd (AreAddressed hd) (kept hd form.header) r in
    let all = h.holds.1.0 (let u = a.uid in u.node) o.node o.there in
    let number = h.stands.numbers (let u = a.uid in u.node) o.node o.there in
    let node = node_form hd form.header (let u = a.uid in u.node) (subst (IsNode hd) number all.0) in
    let inc = incs_next hd r (let u = a.uid in u.node) o.node form.few (has (let n = o.node in n.number)) o.there in (
      few (let u = a.uid in u.node) node.1,
      below (let u = a.uid in u.inc) (let d = (let n = o.node in n.disk) in d.inc) o.present inc,
      short (let u = a.uid in u.num) so.1,
    )
  where
    few : (n : ℕ) → n ≤ 16 → n < 4294967296
    few n le = omega (arith, le)

    below : (i d : ℕ) → i ≤ d → d < last_inc → i < 4294967296
    below i d le less = omega (arith, le, less)

    short : (n : ℕ) → n ≤ 4096 → n < 18446744073709551616
    short n le = omega (arith, le)

each_of : {A : Type 0} (P : A → Type 0) (xs : List A) → ((x : A) → In x xs → P x) → AllByRecursion P xs
each_of P [] each = tt
each_of P (x ∷ xs) each = (each x (inl refl), each_of P xs (λ y i. each y (inr i)))

-- who began
began_fits : (acts : List Act) (u : Uid) → AllByRecursion ActFits acts → has_act acts u ≡ true → UidFits u
began_fits [] u all is = absurd (cc is)
began_fits (a ∷ acts) u all is = by (uid_eq a.uid u) refl is (began_fits acts u all.1)
  where
    by : (b : Bool) → uid_eq a.uid u ≡ b → (b || has_act acts u) ≡ true → (has_act acts u ≡ true → UidFits u) → UidFits u
    by true same here rest = subst UidFits (uid_is a.uid u same) all.0
    by false other later rest = rest later

-- ---- lines

decided_fits : (B : Book) (u : Uid) → Sane B → AllByRecursion ActFits B.acts → is_decided B u ≡ true → UidFits u
decided_fits B u sane all is = by (is_on B.committed u) (is_on B.found u) (sane.committed u) (sane.found u) is
  where
    by : (a b : Bool) → (a ≡ true → has_act B.acts u ≡ true) → (b ≡ true → has_act B.acts u ≡ true) → (a || b) ≡ true → UidFits u
    by true b one two is = began_fits B.acts u all (one refl)
    by false b one two is = began_fits B.acts u all (two is)

module _ (hd : Header) (form : HeaderFits hd) where
  body_form : (B : Book) (b : Body) → Sane B → Right B b → AllByRecursion ActFits (turned B b).acts → LabelsInForm b →
      SaysOf (IsNode hd) b → is_of_action b ≡ true → BodyInForm b
  body_form B (body.Began l k u p) sane right all labels node is = (labels.0, all.0, labels.1)
  body_form B (body.Recovered n u) sane right all labels node is =
      (node_form hd form n node, began_fits B.acts u all (sane.called u right.called))
  body_form B (body.Told n u ending.Commit p) sane right all labels node is = (node_form hd form n node, decided_fits B u sane all right)
  body_form B (body.Done n u r ending.Commit) sane right all labels node is = (node_form hd form n node, decided_fits B u sane all right)
  body_form B b sane right all labels node is = absurd (cc is)

  lines_form : (B : Book) (lines : List Line) → Sane B → AreRight B lines → AllByRecursion ActFits (book_from B lines).acts →
      AllByRecursion IsSaidInForm lines → AllByRecursion (λ (line : Line). LabelsInForm line.body) lines
      → AllByRecursion (λ (line : Line). SaysOf (IsNode hd) line.body) lines →
      AllByRecursion (λ (line : Line). is_of_action line.body ≡ true → LineInForm line) lines
  lines_form B [] sane right all numbers labels nodes = tt
  lines_form B (line ∷ lines) sane right all numbers labels nodes = (
    λ is. (
      numbers.0.0,
      body_form B line.body sane right.0 (acts_less ActFits (turned B line.body) lines all) labels.0 nodes.0 is,
    ),
    lines_form (turned B line.body) lines (sane_turn B line.body right.0 sane) right.1 all numbers.1 labels.1 nodes.1,
  )

pub runs_say_actions : RunsSayActions
runs_say_actions hd r form has =
    let w = world_by hd r in
    let right = kept_right hd w (moves_keep hd r) in
    lines_form hd form.header new_book w.lines sane_new right
    (subst (AllByRecursion ActFits) (sym (its_acts w.lines right)) (each_of ActFits (acts w.lines)
    (λ a i. act_fits hd r form has a (runs_number_actions hd r a (in_to a (acts w.lines) i)))))
    (runs_say_in_form hd r form) (runs_say_labels hd r form) (lines_name hd form.header r)

pub fresh_incs : FreshHasIncs
fresh_incs n = omega arith
