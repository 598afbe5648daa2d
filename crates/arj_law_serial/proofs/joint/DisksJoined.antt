-- Two journals, one behind the other, exclude stores in time where the second one's run does.
use Rattle.arj_law_parts.proofs.Words
use Words.{◌≡◌, ◌<◌, ◌++◌, ◌+◌, ◌∙◌, ℕ, Bool, true, false, cond, nat_lt, List, [], ◌∷◌, length, Some, refl, sym, ap, subst, inl, inr, arith}
use Words.{AllByRecursion, state_bytes, ObjectState, Line, Header, Wrote, DiskIsInTime, DiskTakesOut, DisksAreInTime, HasPrepared}
use Words.{lines_before, uid_of}
use Rattle.arj_law_serial.proofs.Terms
use Terms.{acts, Top, Disks, writes_on}
use Terms.role
use Rattle.arj_law.proofs.JoinedLast.{last_join, uid_second}
use Rattle.arj_law.proofs.JoinedSaid.{call_of_second, is_decided, new_of_second, top_of_both}
use Rattle.arj_law.specs.Joined.{AreJoined, call_behind, marks_after, top_behind}
use Rattle.arj_law_serial.specs.joint.DisksJoined.{JoinedRunsAreInTime}
use Rattle.arj_model.specs.{Calls.Call, Last.last_from, Last.last_state}
use Rattle.arj_promise.specs.Excluded.{DisksAreInTimeFrom}
use Rattle.std.proofs.lemmas.Bool.{lt-ltb}

-- ---- lines before an event

before_join : (e : ℕ) (first second : List Line) → AllByRecursion (λ (line : Line). line.event < e) first →
    lines_before e (first ++ second) ≡ first ++ lines_before e second
before_join e [] second h = refl
before_join e (line ∷ first) second h = (λ i. cond (lt-ltb line.event e h.0 i) (line ∷ before_join e first second h.1 i) [])

-- they are a front
front_of : (e : ℕ) (lines : List Line) → (rest : List Line) × (lines_before e lines ++ rest ≡ lines)
front_of e [] = ([], refl)
front_of e (line ∷ lines) = by (front_of e lines) (nat_lt line.event e)
  where
    by : (rest : List Line) × (lines_before e lines ++ rest ≡ lines) → (b : Bool) →
        (rest : List Line) × (cond b (line ∷ lines_before e lines) [] ++ rest ≡ line ∷ lines)
    by ih true = (ih.0, ap (λ ls. line ∷ ls) ih.1)
    by ih false = (line ∷ lines, refl)

-- ---- both journals

module _ (header next : Header) (first front rest : List Line) (e : ℕ) (disks : Disks) (joined : AreJoined header first next
    (front ++ rest)) (before : lines_before e (first ++ (front ++ rest)) ≡ first ++ front) (own : lines_before e (front ++ rest) ≡ front)
    (in_time : DisksAreInTimeFrom next (marks_after header first) e (front ++ rest) disks) where
  abbrev second : List Line
  second = front ++ rest

  abbrev both : List Line
  both = first ++ second

  abbrev n : ℕ
  n = length first

  abbrev k : ℕ
  k = length (acts first)

  last_is : (x : ℕ) → last_state header both x ≡ last_from next (marks_after header first) second x
  last_is x = last_join first second joined.apart joined.called header next joined.goes x

  module _ (t u : Top) (same : top_behind n k u ≡ t) (x s : ℕ) where
    uid_is : uid_of both t ≡ uid_of second u
    uid_is = ap (uid_of both) (sym same) ∙ uid_second first second joined.apart u.id

    wrote_too : Wrote both x t → Wrote second x u
    wrote_too (c, there, writes, top) =
        let number : c.top ≡ u.id + k = top ∙ ap (λ (z : Top). z.id) (sym same) in
        let g = call_of_second first second joined.apart c u.id there number in
        let d : Call = g.0 in
        let is : call_behind n k d ≡ c = g.2 in (
          d,
          g.1,
          subst (λ z. writes_on x z ≡ true) (sym is) writes,
          (let own_top : d.top + k ≡ c.top = ap (λ (z : Call). z.top) is in omega (arith, own_top, number)),
        )

    takes_too : DiskTakesOut second x (disks 1) u s → DiskTakesOut both x (disks 1) t s
    takes_too out = record {
      by_top = top_behind n k out.by_top;
      committed = top_of_both first second joined.apart out.by_top out.committed;
      unit = ap (λ r. r + k) out.unit ∙ ap (λ (z : Top). z.root) same;
      new = out.new;
      form = out.form;
      of = out.of;
      prepared = subst (λ w. HasPrepared (disks 1) role.Names w out.new)
          (sym (uid_second first second joined.apart (let b = out.by_top in b.id))) out.prepared;
      lacks = out.lacks;
    }

    so_it_is : DiskIsInTime (last_from next (marks_after header first) second x) second x disks u s →
        DiskIsInTime (last_state header both x) both x disks t s
    so_it_is (inl holds) = inl (holds ∙ ap (λ (z : ObjectState). Some (state_bytes z)) (sym (last_is x)))
    so_it_is (inr (inl has)) = inr (inl (subst (λ w. HasPrepared (disks s) role.Store w (last_state header both x)) (sym uid_is)
        (subst (HasPrepared (disks s) role.Store (uid_of second u)) (sym (last_is x)) has)))
    so_it_is (inr (inr out)) = inr (inr (takes_too out))

  pub joined_so : DisksAreInTime header e both disks
  joined_so t x s new wrote lists =
      let f = new_of_second first front rest joined.apart t new.0 (ap (λ ls. is_decided ls (uid_of both t)) (sym before) ∙ new.1) in
      let u : Top = f.0 in
      so_it_is t u f.2 x s (in_time u x s (f.1, ap (λ ls. is_decided ls (uid_of second u)) own ∙ f.3) (wrote_too t u f.2 x s wrote) lists)

pub joined_in_time : JoinedRunsAreInTime
joined_in_time header next first second e disks joined events in_time =
    let f = front_of e second in
    subst (λ ls. lines_before e (first ++ ls) ≡ first ++ lines_before e second → lines_before e ls ≡ lines_before e second → AreJoined
    header first next ls → DisksAreInTimeFrom next (marks_after header first) e ls disks → DisksAreInTime header e (first ++ ls) disks)
    f.1 (λ before own j h. joined_so header next first (lines_before e second) f.0 e disks j before own h)
    (before_join e first second events) refl joined in_time
