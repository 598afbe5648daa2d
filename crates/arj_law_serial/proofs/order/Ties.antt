-- What the proofs take of a tie between a journal and a state of an object's machine.
use Rattle.arj_law_parts.proofs.Words
use Words.{◌≡◌, ℕ, ◌+◌, ◌==◌, List, [], ◌∷◌, true, false, inl, inr, refl, sym, ◌∙◌, subst, ⊎_elim, Contains, eqb-true, list_any, uid_is}
use Words.{uid_eq, Uid, Line, In, in_to, is_serial}
use Rattle.arj_law_serial.proofs.Terms
use Terms.{Act, Placed, committed, has_end, recovered, Said, Values, IsDone, called, or_which, State, Run, start, Acts, Codes}
use Terms.{AreCallsOf, EndsSo, IsDecidedAt, said_on, AreApart, Began, HasPlaces, IsTied}
use Terms.machine
use Terms.state
use Rattle.arj_law_serial.proofs.order.Timely.{run_initial}
use Rattle.arj_law_serial.specs.order.Tied.{AreTied}
use Rattle.arj_model.specs.Calls.{said}

-- What the machine has of an action: it is committed there exactly if it is by the journal; and the places of its commit's call
-- and of its commit are those of its lines.
pub record IsAsSaid (lines : List Line) (a : Act) (m : state.Action) : Type 0 where
  pub done : IsDone lines a → m.stage ≡ 3
  pub only : m.stage ≡ 3 → IsDone lines a
  pub decided : m.stage ≡ 3 → IsDecidedAt lines a m.done
  pub place : (e : Placed ℕ) → Contains (called lines) e → e.it ≡ a.id → m.place ≡ e.at + 1
  pub commit : (e : Placed ℕ) → Contains (committed lines) e → e.it ≡ a.id → m.done ≡ e.at + 1

pub record Tie (values : Values) (lines : List Line) (x : ℕ) (S : State) : Type 0 where
  pub act : Acts
  pub code : Codes
  pub codes : AreApart code
  pub places : HasPlaces act lines
  pub writer : machine.Act
  pub run : Run (start (code (values x) writer)) S
  pub actions : (a : Act) → Began lines a → is_serial a.kind ≡ false → IsAsSaid lines a (S.action (act a.uid))
  pub calls : AreCallsOf act code (said_on x lines) S.calls

abbrev pub Ties : Values → List Line → Type 0
Ties values lines = (x : ℕ) → list_any (λ (s : Placed Said). s.it.x == x) (said lines) ≡ true → (S : State) × Tie values lines x S

-- who is named by number, or by Uid, in a list of ends
ended_by : (es : List (Placed ℕ)) (id : ℕ) → has_end es id ≡ true → (e : Placed ℕ) × In e es × (e.it ≡ id)
ended_by [] id is = absurd (cc is)
ended_by (e ∷ es) id is = ⊎_elim (λ here. (e, inl refl, eqb-true e.it id here)) (λ there. let r = ended_by es id there in
    (r.0, inr r.1, r.2)) (or_which (e.it == id) (has_end es id) is)

found_by : (us : List (Placed Uid)) (u : Uid) → list_any (λ (e : Placed Uid). uid_eq e.it u) us ≡ true →
    (e : Placed Uid) × In e us × (e.it ≡ u)
found_by [] u is = absurd (cc is)
found_by (e ∷ us) u is = ⊎_elim (λ here. (e, inl refl, uid_is e.it u here)) (λ there. let r = found_by us u there in
    (r.0, inr r.1, r.2)) (or_which (uid_eq e.it u) (list_any (λ (z : Placed Uid). uid_eq z.it u) us) is)

pub as_said : (lines : List Line) (a : Act) (m : state.Action) → EndsSo lines a m → IsAsSaid lines a m
as_said lines a m h = record {
  done = λ done. ⊎_elim
      (λ own. let e = ended_by (committed lines) a.id own in (h.commit e.0 (in_to e.0 (committed lines) e.1) e.2).0)
      (λ found. let e = found_by (recovered lines) a.uid found in (h.found e.0 (in_to e.0 (recovered lines) e.1) e.2).0)
      (or_which (has_end (committed lines) a.id) (list_any (λ (u : Placed Uid). uid_eq u.it a.uid) (recovered lines)) done);
  only = λ three. (h.only three).0;
  decided = h.decided;
  place = λ e there same. (h.place e there same).0;
  commit = λ e there same. (h.commit e there same).1;
}

abbrev pub tie_of : (values : Values) (lines : List Line) (x : ℕ) (S : State) → IsTied values lines x S → Tie values lines x S
tie_of values lines x S t = let l = t.tied in record {
  act = t.act;
  code = t.code;
  codes = t.apart;
  places = t.places;
  writer = l.writer;
  run = subst (λ n. Run (start n) S) (sym (run_initial t.run) ∙ l.first) t.run;
  actions = λ a began plain. as_said lines a (S.action (t.act a.uid)) (l.ends a began plain);
  calls = l.calls;
}

pub ties_of : (values : Values) (lines : List Line) → AreTied values lines → Ties values lines
ties_of values lines tied x called = let t = tied x called in (t.0, tie_of values lines x t.0 t.1)
