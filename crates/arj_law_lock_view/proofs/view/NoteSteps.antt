-- What naming does with a Record and a Hello goes in the machine.
use Rattle.arj_law_parts.proofs.Words
use Words.{◌≡◌, ◌≢◌, ◌≤◌, ◌<◌, ◌∙◌, ◌&&◌, ◌==◌, nat_le, not, ℕ, Bool, true, false, cond, Option, Some, None, refl, sym, ap, subst, inl, inr}
use Words.{⊎_elim, arith, eqb-true, ltb-true, min, list_any, and_parts, uid_cases, Uid, Binding, RecordedReply, entry, is_on, lower_row}
use Words.{reply, void, Named, Live, Made, note_named, note_other, note_made, in_use, lowered, lower_lines, is_lowered}
use Words.{is_write_row, live_after, at_uid, binding_number, binding_eq, is_binding}
use Words.recorded
use Rattle.arj_law_lock_view.proofs.Terms
use Terms.{Act, In, same, Guard, next, stay, step, State, IsCurrent, Record, act_cases, Owners, put_cases, put_other, put_same, Acts}
use Terms.{AreOne, IsGood, IsUntold, Goes, NobodyTold, OnlyNaming, ShowsNoted, IsNamedSo, Place, SeesMade, SeesNamed, SeesRows, held_in}
use Terms.machine
use Rattle.arj_law_lock.proofs.machine.Paths.{other_way}
use Rattle.arj_law_lock_view.proofs.view.RowSteps.{lowered_keeps, lowered_others}
use Rattle.arj_law_lock_view.specs.view.{Bindings.HellosAreSeen, Bindings.NotesAreSeen, Named.SeesLive}

module _ (act : Acts) (owner : Owners) (x : ℕ) (n : Place) (o : Named) (t : Uid) (b : Binding) (i : ℕ) (S : State) (one : AreOne act)
    (untold : IsUntold act owner n S t) (named : IsNamedSo S b i) (good : IsGood owner x n o) (sees : SeesNamed act x n o S) where
  abbrev Answers : Named → Option RecordedReply → State → Type 0
  Answers v r T = SeesNamed act x n v T × OnlyNaming S T × NobodyTold S T × ShowsNoted b T r

  nothing_else : OnlyNaming S S
  nothing_else = record { rest = refl; bindings = λ k l. refl; sent = λ m j. j }

  unknown : Goes S (Answers o None)
  unknown = record { state = S; run = stay; holds = (sees, nothing_else, (refl, (refl, refl)), tt) }

  -- it was recorded before
  again : In (machine.Recorded (binding_number b)) S.net → Goes S (Answers o (Some recorded.Yes))
  again there = record { state = S; run = stay; holds = (sees, nothing_else, (refl, (refl, refl)), there) }

  -- ---- it is recorded

  module _ (m : Made) (made : at_uid t o.made ≡ Some m) (new : m.recorded ≡ false) (is : binding_number b ≡ binding_number m.binding) where
    abbrev k : ℕ
    k = binding_number m.binding

    abbrev T : State
    T = next (Record k) S

    abbrev used : Named
    used = in_use t m i o

    abbrev after : Named
    after = lowered x t used

    maker : (let c = S.binding k in c.maker) ≡ act t
    maker = let s = sees.made t m made in s.maker

    above : S.naming.recorded < k
    above = by o.recorded refl
      where
        by : (v : Option Binding) → o.recorded ≡ v → S.naming.recorded < k
        by None none =
            let e = sees.unrecorded none in
            let f = sees.first in
            let c = (good.made t m made).1.0 in
            omega (arith, e, f, c)
        by (Some r) some =
            let e = sees.recorded r some in
            let u = good.unrecorded t m made new untold.above in
            let less = ltb-true (binding_number r) k (u.above r some) in
            omega (arith, e, less)

    present : S.naming.first ≤ k
    present = let f = sees.first in let c = (good.made t m made).1.0 in omega (arith, f, c)

    current : IsCurrent S.naming (act t) k
    current = record { present = present; unrecorded = above; untold = untold.seen; last = (let s = sees.made t m made in s.last) }

    guard : Guard (Record k) S
    guard = (
      subst (λ (j : ℕ). (let c = S.binding j in c.named) ≡ true) is named.0,
      subst (λ (a : Act). IsCurrent S.naming a k) (sym maker) current,
    )

    -- the write lock goes down to read where the protocol lowers it
    rows_after : SeesRows act (entry x) after.rows T.naming.rows
    rows_after = subst (λ (a : Act). SeesRows act (entry x) after.rows
        (λ c. cond (same c a) (cond (S.naming.asked a) (S.naming.rows a) (min (S.naming.rows a) 1)) (S.naming.rows c))) (sym maker)
        (act_cases (λ (a : Act) (v : ℕ). v ≤ held_in act (entry x) a after.rows) S.naming.rows (act t)
        (cond (S.naming.asked (act t)) (S.naming.rows (act t)) (min (S.naming.rows (act t)) 1)) own others)
      where
        others : (a : Act) → same a (act t) ≡ false → S.naming.rows a ≤ held_in act (entry x) a after.rows
        others a off = by (is_lowered x t used)
          where
            by : (w : Bool) → S.naming.rows a
                ≤ held_in act (entry x) a (let v = cond w (record used { rows = lower_row t (entry x) used.rows }) used in v.rows)
            by true = let e = sees.rows a in let f = lowered_others act (entry x) t a o.rows (other_way a (act t) off) in
                omega (arith, e, f)
            by false = sees.rows a

        own :
            cond (S.naming.asked (act t)) (S.naming.rows (act t)) (min (S.naming.rows (act t)) 1) ≤ held_in act (entry x) (act t) after.rows
        own = by (S.naming.asked (act t)) refl (is_lowered x t used) refl
          where
            by : (v : Bool) → S.naming.asked (act t) ≡ v → (w : Bool) → is_lowered x t used ≡ w
                → cond v (S.naming.rows (act t)) (min (S.naming.rows (act t)) 1)
                ≤ held_in act (entry x) (act t) (let q = cond w (record used { rows = lower_row t (entry x) used.rows }) used in q.rows)
            by true asked true low =
                let on = ⊎_elim (λ (told : n.told t ≡ true). absurd (cc (sym told ∙ untold.own)))
                (λ (yes_on : is_on o.asked t ≡ true). yes_on) (sees.asked t asked) in
                let both = and_parts (list_any (is_write_row (entry x) t) o.rows) (not (is_on o.asked t)) low in
                absurd (cc (sym both.1 ∙ ap not on))
            by false asked true low = let e = sees.rows (act t) in let f = lowered_keeps act (entry x) t (act t) o.rows in
                omega (arith, e, f)
            by true asked false low = sees.rows (act t)
            by false asked false low = let e = sees.rows (act t) in omega (arith, e)

    -- of what the rest of the object is, the lock says nothing
    same_rest : (w : Bool) → (let v = cond w (record used { rows = lower_row t (entry x) used.rows }) used in record used { rows = v.rows })
        ≡ cond w (record used { rows = lower_row t (entry x) used.rows }) used
    same_rest true = refl
    same_rest false = refl

    made_after : (u : Uid) (q : Made) → at_uid u used.made ≡ Some q → SeesMade act u q T
    made_after u q there = ⊎_elim
        (λ (mine : (u ≡ t) × (record m { recorded = true } ≡ q)). subst (λ (w : Uid). SeesMade act w q T) (sym mine.0)
        (subst (λ (p : Made). SeesMade act t p T) mine.1 (let s = sees.made t m made in
        record { last = s.last; server = s.server; maker = s.maker; sent = inr s.sent; noted = λ h. inl refl })))
        (λ (other : (u ≢ t) × (at_uid u o.made ≡ Some q)). let s = sees.made u q other.1 in
        record { last = s.last; server = s.server; maker = s.maker; sent = inr s.sent; noted = λ h. inr (s.noted h) })
        (put_cases u t (record m { recorded = true }) q o.made there)

    seen_after : SeesNamed act x n (record used { rows = after.rows }) T
    seen_after = record {
      rows = rows_after;
      bound = sees.bound;
      first = sees.first;
      recorded = λ c h. (let e : m.binding ≡ c = cc h in ap binding_number e);
      unrecorded = λ h. absurd (cc h);
      known = λ c h. (let e : m.binding ≡ c = cc h in inl (ap (λ (d : Binding). machine.Recorded (binding_number d)) (sym e)));
      live = λ l h. (let e : record { binding = m.binding; server = m.server; inc = i } ≡ l = cc h in
          subst (λ (v : Live). SeesLive v T) e (record {
            server = (let s = sees.made t m made in s.server);
            named = subst (λ (j : ℕ). (let c = S.binding j in c.named) ≡ true) is named.0;
            incarnation = subst (λ (j : ℕ). (let c = S.binding j in c.incarnation) ≡ i) is named.1;
          }));
      made = made_after;
      asked = sees.asked;
      making = λ u top since free. ⊎_elim
          (λ (mine : u ≡ t). (
            record m { recorded = true },
            ap (λ (w : Uid). at_uid w used.made) mine ∙ put_same t (record m { recorded = true }) o.made,
            (let s = sees.made t m made in sym (ap (λ (w : Uid). S.naming.made (act w)) mine ∙ s.last)),
          ))
          (λ (other : u ≢ t). (let h = sees.making u top since free in
          (h.0, put_other u t (record m { recorded = true }) o.made other ∙ h.1, h.2)))
          (uid_cases u t);
    }

    noted_goes : Goes S (Answers after (Some recorded.Yes))
    noted_goes = record {
      state = T;
      run = step (Record k) guard stay;
      holds = (
        subst (λ (v : Named). SeesNamed act x n v T) (same_rest (is_lowered x t used)) seen_after,
        record { rest = refl; bindings = λ j l. refl; sent = λ q j. inr j },
        (refl, (refl, refl)),
        inl (ap machine.Recorded is),
      );
    }

  -- ---- whichever it is

  by_made : (m : Made) → at_uid t o.made ≡ Some m → binding_number b ≡ binding_number m.binding → (w : Bool) → m.recorded ≡ w
      → let r = cond w (reply o recorded.Yes)
      (record { part = lowered x t (in_use t m i o); outs = lower_lines x t o; reply = Some recorded.Yes }) in
      Goes S (Answers r.part r.reply)
  by_made m made is true old = again (subst (λ (j : ℕ). In (machine.Recorded j) S.net) (sym is) (let s = sees.made t m made in s.noted old))
  by_made m made is false new = noted_goes m made new is

  by_binding : (m : Made) → at_uid t o.made ≡ Some m → (w : Bool) → binding_eq b m.binding ≡ w →
      let r = cond w (note_made x t i o m) (void o) in Goes S (Answers r.part r.reply)
  by_binding m made true is = by_made m made (eqb-true (binding_number b) (binding_number m.binding) is) m.recorded refl
  by_binding m made false is = unknown

  by_other : (v : Option Made) → at_uid t o.made ≡ v → let r = note_other x t b i o v in Goes S (Answers r.part r.reply)
  by_other None none = unknown
  by_other (Some m) made = by_binding m made (binding_eq b m.binding) refl

  -- the binding that was recorded last
  recorded_is : (v : Option Binding) → o.recorded ≡ v → is_binding b v ≡ true → In (machine.Recorded (binding_number b)) S.net
  recorded_is None none is = absurd (cc is)
  recorded_is (Some c) some is =
      subst (λ (j : ℕ). In (machine.Recorded j) S.net) (sym (eqb-true (binding_number b) (binding_number c) is)) (sees.known c some)

  pub note_goes : let r = note_named x t b i o in Goes S (Answers r.part r.reply)
  note_goes = by (is_binding b o.recorded) refl
    where
      by : (w : Bool) → is_binding b o.recorded ≡ w → let r = cond w (reply o recorded.Yes) (note_other x t b i o (at_uid t o.made)) in
          Goes S (Answers r.part r.reply)
      by true is = again (recorded_is o.recorded refl is)
      by false is = by_other (at_uid t o.made) refl

pub notes_are_seen : NotesAreSeen
notes_are_seen act owner x n o t b i S one untold named good sees = note_goes act owner x n o t b i S one untold named good sees

pub hellos_are_seen : HellosAreSeen
hellos_are_seen act x n o node inc S sees = record {
  rows = sees.rows;
  bound = sees.bound;
  first = sees.first;
  recorded = sees.recorded;
  unrecorded = sees.unrecorded;
  known = sees.known;
  live = λ l is. sees.live l (kept o.live l is);
  made = sees.made;
  asked = sees.asked;
  making = sees.making;
}
  where
    kept : (v : Option Live) (l : Live) → live_after node inc v ≡ Some l → v ≡ Some l
    kept None l is = absurd (cc is)
    kept (Some k) l is = by ((k.server == node) && not (nat_le inc k.inc)) is
      where
        by : (w : Bool) → cond w None (Some k) ≡ Some l → Some k ≡ Some l
        by true h = absurd (cc h)
        by false h = h
