-- Each call of naming on one object keeps the object good.
use Rattle.arj_law_parts.proofs.Words
use Words.{◌≡◌, ◌≢◌, ◌≤◌, ◌<◌, ◌+◌, ◌*◌, ◌==◌, ℕ, List, Bool, true, false, cond, not, ◌&&◌, ◌||◌, nat_le, nat_lt, Option, Some, None, refl}
use Words.{sym, ◌∙◌, ap, subst, inl, inr, ⊎_elim, arith, list_any, or_left, or_right, and_parts, false_from_ne_true, uid_same, uid_cases}
use Words.{Uid, Binding, Path, Mode, Entry, End, Row, BoundReply, RecordedReply, entry, last_uid, is_on, lower_row, uid_eq, at_uid}
use Words.{without_uid, with_uid, drop_uid, binding_less, binding_eq, Served, reply, void, top_path, top_of, Named, Counted, Live, Made}
use Words.{entry_row, conflict_on, locked, bound_new, bind_made, live_asked, make_asked, include_asked, bind_call, bind_named, live_above}
use Words.{made_above, next_server, is_lowered, lowered, lower_lines, in_use, note_made, note_other, note_named, is_write_row}
use Words.{end_named, live_after, hello_named, unnamed, is_binding}
use Words.mode
use Words.ending
use Words.recorded
use Rattle.arj_law_parts.proofs.Terms.{Told, HasLock, AreGoodRows, Owners, IsTop, IsHolder, Fits, IsGoodObject, IsToldOf, Untold}
use Rattle.arj_law_parts.proofs.parts
use parts.EntryLocks.{good_lower, good_drop, good_pass}
use parts.Keys.{put_cases, put_other, sorted_put, without_same, without_other, without_cases, sorted_without, on_with, on_drop}
use parts.Stands.{stands_asked, asked_has, good_asked, stands_lower, stands_drop, stands_pass, one_top}
use Rattle.arj_law_parts.specs.parts.Objects.{IsCounted, IsUnrecorded}

never : {P : Type 0} (b : Bool) → b ≡ true → b ≡ false → P
never b holds fails = let no_way : true ≡ false = sym holds ∙ fails in cc

-- an action is on its own path
pub on_own : (owner : Owners) (us : List Uid) → IsHolder owner us → is_on us (last_uid us) ≡ true
on_own owner us (inl own) =
    ap (λ vs. is_on vs (last_uid us)) own ∙ or_left (uid_eq (last_uid us) (last_uid us)) false (uid_same (last_uid us))
on_own owner us (inr own) =
    ap (λ vs. is_on vs (last_uid us)) own.0 ∙ or_right (uid_eq (owner (last_uid us)) (last_uid us))
    (uid_eq (last_uid us) (last_uid us) || false) (or_left (uid_eq (last_uid us) (last_uid us)) false (uid_same (last_uid us)))

less : (a b : Binding) → a.inc ≡ b.inc → a.count < b.count → binding_less a b ≡ true
less a b same h = number (a.inc * 4294967296 + a.count) (b.inc * 4294967296 + b.count) (omega (arith, same, h))
  where
    number : (m n : ℕ) → m < n → nat_lt m n ≡ true
    number m n k = grind arith

module _ (owner : Owners) (told : Told) (x : ℕ) (p : Path) (fits : Fits owner p) (untold : Untold told p) where
  pub own_untold : told (top_of p) ≡ false
  own_untold = false_from_ne_true (told (top_of p))
      (λ e. never (is_on (top_path p) (top_of p)) (on_own owner (top_path p) fits.holder) (untold (top_of p) e))

  pub owner_untold : told (owner (top_of p)) ≡ false
  owner_untold = false_from_ne_true (told (owner (top_of p)))
      (λ e. never (is_on (top_path p) (owner (top_of p))) fits.owned (untold (owner (top_of p)) e))

  another : (u : Uid) → told u ≡ true → u ≢ top_of p
  another u e same = never (told u) e (ap told same ∙ own_untold)

  pub good_locked : (inc count : ℕ) (m : Mode) (o : Named) → IsGoodObject owner told inc count x o → conflict_on x p m o ≡ None →
      IsGoodObject owner told inc count x (locked x p m o)
  good_locked inc count m o good free = record {
    rows = good_asked owner told x (entry_row x p m) o.rows good.rows refl fits.holder free untold;
    sorted = good.sorted;
    unmade = good.unmade;
    unasked = good.unasked;
    asked = λ t on unended. stands_asked t 2 (entry_row x p m) o.rows (good.asked t on unended);
    made = good.made;
    recorded = good.recorded;
    live = good.live;
    unrecorded = λ t d found not_yet unended. let u = good.unrecorded t d found not_yet unended in
        record { lock = stands_asked t 2 (entry_row x p m) o.rows u.lock; above = u.above };
  }

  -- ---- bind

  abbrev IsGoodAfter : ℕ → Served Counted BoundReply → Type 0
  IsGoodAfter inc r = IsGoodObject owner told inc r.part.count x r.part.named

  good_new : (inc : ℕ) (e : Entry) (c : Counted) (server : ℕ) → IsGoodObject owner told inc c.count x c.named →
      conflict_on x p mode.Write c.named ≡ None → IsGoodAfter inc (bound_new inc x p e c server)
  good_new inc e c server before free = record {
    rows = good.rows;
    sorted = sorted_put (top_of p) new c.named.made before.sorted;
    unmade = λ u is. put_other u (top_of p) new c.named.made (another u is) ∙ before.unmade u is;
    unasked = before.unasked;
    asked = good.asked;
    made = λ t d found. ⊎_elim (λ f. (
      subst (IsTop owner) (sym f.0) fits.top,
      (ap (λ (k : Made). k.binding.inc) (sym f.1), subst (λ (k : Made). k.binding.count ≤ c.count + 1) f.1 (omega arith)),
    )) (λ f. let h = before.made t d f.1 in (h.0, (h.1.0, omega (arith, h.1.1)))) (put_cases t (top_of p) new d c.named.made found);
    recorded = λ b is. let h = before.recorded b is in (h.0, omega (arith, h.1));
    live = before.live;
    unrecorded = λ t d found unrecorded unended.
        ⊎_elim (λ f. record {
          lock = subst (λ w. HasLock w 2 (locked x p mode.Write c.named).rows) (sym f.0) own;
          above = λ b is. let h = before.recorded b is in
              subst (λ (k : Made). binding_less b k.binding ≡ true) f.1 (less b new.binding h.0 (omega (arith, h.1)));
        })
        (λ f. let u = good.unrecorded t d f.1 unrecorded unended in record { lock = u.lock; above = u.above })
        (put_cases t (top_of p) new d c.named.made found);
  }
    where
      new : Made
      new = record { binding = record { inc = inc; count = c.count + 1 }; server = server; recorded = false }

      good : IsGoodObject owner told inc c.count x (locked x p mode.Write c.named)
      good = good_locked inc c.count mode.Write c.named before free

      own : HasLock (top_of p) 2 (locked x p mode.Write c.named).rows
      own = asked_has (entry_row x p mode.Write) c.named.rows

  good_made : (inc : ℕ) (e : Entry) (c : Counted) (m : Option Made) → IsGoodObject owner told inc c.count x c.named →
      conflict_on x p mode.Write c.named ≡ None → IsGoodAfter inc (bind_made inc x p e c m)
  good_made inc e c (Some m) good free = good_locked inc c.count mode.Write c.named good free
  good_made inc e c None good free = good_new inc e c (next_server c.named.turn e.servers) good free

  good_live : (inc : ℕ) (e : Entry) (c : Counted) (l : Live) (r : Option Row) → conflict_on x p mode.Read c.named ≡ r →
      IsGoodObject owner told inc c.count x c.named → IsGoodAfter inc (live_asked inc x p e c l r)
  good_live inc e c l (Some r) is good = good
  good_live inc e c l None is good = good_locked inc c.count mode.Read c.named good is

  good_make : (inc : ℕ) (avoid : Binding) (e : Entry) (c : Counted) (r : Option Row) → conflict_on x p mode.Write c.named ≡ r →
      IsGoodObject owner told inc c.count x c.named → IsGoodAfter inc (make_asked inc x p avoid e c r)
  good_make inc avoid e c (Some r) is good = good
  good_make inc avoid e c None is good = good_made inc e c (made_above avoid (at_uid (top_of p) c.named.made)) good is

  good_call : (inc : ℕ) (avoid : Binding) (e : Entry) (c : Counted) (l : Option Live) → IsGoodObject owner told inc c.count x c.named →
      IsGoodAfter inc (bind_call inc x p avoid e c l)
  good_call inc avoid e c (Some l) good = good_live inc e c l (conflict_on x p mode.Read c.named) refl good
  good_call inc avoid e c None good = good_make inc avoid e c (conflict_on x p mode.Write c.named) refl good

  good_include : (inc : ℕ) (e : Entry) (c : Counted) (r : Option Row) → conflict_on x p mode.Write c.named ≡ r →
      IsGoodObject owner told inc c.count x c.named → IsGoodAfter inc (include_asked inc x p e c r)
  good_include inc e c (Some r) is good = good
  good_include inc e c None is before = record {
    rows = good.rows;
    sorted = good.sorted;
    unmade = good.unmade;
    unasked = λ u over. false_from_ne_true (is_on (with_uid (top_of p) c.named.asked) u) (λ on. ⊎_elim (λ same. another u over same)
        (λ old. never (is_on c.named.asked u) old (before.unasked u over)) (on_with u (top_of p) c.named.asked on));
    asked = λ t on unended. ⊎_elim (λ same. subst (λ w. HasLock w 2 (locked x p mode.Write c.named).rows) (sym same)
        (asked_has (entry_row x p mode.Write) c.named.rows)) (λ old. good.asked t old unended) (on_with t (top_of p) c.named.asked on);
    made = good.made;
    recorded = good.recorded;
    live = good.live;
    unrecorded = λ t d found unrecorded unended. let u = good.unrecorded t d found unrecorded unended in
        record { lock = u.lock; above = u.above };
  }
    where
      good : IsGoodObject owner told inc c.count x (locked x p mode.Write c.named)
      good = good_locked inc c.count mode.Write c.named before is

  pub good_bind : (inc : ℕ) (include : Bool) (avoid : Binding) (e : Entry) (c : Counted) → IsGoodObject owner told inc c.count x c.named →
      IsGoodAfter inc (bind_named inc x p include avoid e c)
  good_bind inc true avoid e c good = good_include inc e c (conflict_on x p mode.Write c.named) refl good
  good_bind inc false avoid e c good = good_call inc avoid e c (live_above avoid c.named.live) good

  -- ---- record

  good_used : (inc count i : ℕ) (o : Named) (m : Made) → at_uid (top_of p) o.made ≡ Some m → m.recorded ≡ false →
      IsGoodObject owner told inc count x o → IsGoodObject owner told inc count x (lowered x (top_of p) (in_use (top_of p) m i o))
  good_used inc count i o m found unrecorded good = by (is_lowered x (top_of p) used) refl
    where
      top : Uid
      top = top_of p

      used : Named
      used = in_use top m i o

      own : IsUnrecorded top m o
      own = good.unrecorded top m found unrecorded owner_untold

      -- no other top has a binding that isn't recorded
      only : (t : Uid) (d : Made) → at_uid t used.made ≡ Some d → d.recorded ≡ false → told (owner t) ≡ false → ⊥
      only t d is not_yet unended =
          ⊎_elim (λ f. never d.recorded (ap (λ (k : Made). k.recorded) (sym f.1)) not_yet)
          (λ f. f.0 (one_top owner told x t top 2 2 o.rows good.rows (good.made t d f.1).0 fits.top (omega arith)
          (good.unrecorded t d f.1 not_yet unended).lock own.lock))
          (put_cases t top (record m { recorded = true }) d o.made is)

      made : (t : Uid) (d : Made) → at_uid t used.made ≡ Some d → IsTop owner t × IsCounted inc count d.binding
      made t d is = ⊎_elim (λ f. let h = good.made top m found in
          (subst (IsTop owner) (sym f.0) h.0, subst (λ (k : Made). IsCounted inc count k.binding) f.1 h.1)) (λ f. good.made t d f.1)
          (put_cases t top (record m { recorded = true }) d o.made is)

      noted : (b : Binding) → Some m.binding ≡ Some b → IsCounted inc count b
      noted b is = let same : m.binding ≡ b = cc in subst (IsCounted inc count) same (good.made top m found).1

      using : (l : Live) → Some (record { binding = m.binding; server = m.server; inc = i }) ≡ Some l → Some m.binding ≡ Some l.binding
      using l is = let same : record { binding = m.binding; server = m.server; inc = i } ≡ l = cc in ap (λ (k : Live). Some k.binding) same

      by : (b : Bool) → is_lowered x top used ≡ b →
          IsGoodObject owner told inc count x (cond b (record used { rows = lower_row top (entry x) used.rows }) used)
      by true is = record {
        rows = good_lower owner told x top (entry x) o.rows good.rows;
        sorted = sorted_put top (record m { recorded = true }) o.made good.sorted;
        unmade = λ u over. put_other u top (record m { recorded = true }) o.made (another u over) ∙ good.unmade u over;
        unasked = good.unasked;
        asked = λ t on unended. stands_lower top (entry x) o.rows t 2 (λ same. never (is_on o.asked top) (ap (is_on o.asked) (sym same)
            ∙ on) (un (is_on o.asked top) (and_parts (list_any (is_write_row (entry x) top) o.rows) (not (is_on o.asked top)) is).1))
            (good.asked t on unended);
        made = made;
        recorded = noted;
        live = using;
        unrecorded = λ t d found' not_yet unended. absurd (only t d found' not_yet unended);
      }
        where
          un : (b : Bool) → not b ≡ true → b ≡ false
          un true e = sym e
          un false e = refl
      by false is = record {
        rows = good.rows;
        sorted = sorted_put top (record m { recorded = true }) o.made good.sorted;
        unmade = λ u over. put_other u top (record m { recorded = true }) o.made (another u over) ∙ good.unmade u over;
        unasked = good.unasked;
        asked = good.asked;
        made = made;
        recorded = noted;
        live = using;
        unrecorded = λ t d found' not_yet unended. absurd (only t d found' not_yet unended);
      }

  good_noted : (inc count i : ℕ) (o : Named) (m : Made) → at_uid (top_of p) o.made ≡ Some m → IsGoodObject owner told inc count x o →
      IsGoodObject owner told inc count x (note_made x (top_of p) i o m).part
  good_noted inc count i o m found good = by m.recorded refl
    where
      by : (b : Bool) → m.recorded ≡ b →
          IsGoodObject owner told inc count x (cond {A = Served Named RecordedReply} b (reply o recorded.Yes) (record {
            part = lowered x (top_of p) (in_use (top_of p) m i o);
            outs = lower_lines x (top_of p) o;
            reply = Some recorded.Yes;
          })).part
      by true is = good
      by false is = good_used inc count i o m found is good

  good_other : (inc count i : ℕ) (b : Binding) (o : Named) (m : Option Made) → at_uid (top_of p) o.made ≡ m →
      IsGoodObject owner told inc count x o → IsGoodObject owner told inc count x (note_other x (top_of p) b i o m).part
  good_other inc count i b o None found good = good
  good_other inc count i b o (Some m) found good = by (binding_eq b m.binding)
    where
      by : (e : Bool) →
          IsGoodObject owner told inc count x (cond {A = Served Named RecordedReply} e (note_made x (top_of p) i o m) (void o)).part
      by true = good_noted inc count i o m found good
      by false = good

  pub good_note : (inc count i : ℕ) (b : Binding) (o : Named) → IsGoodObject owner told inc count x o →
      IsGoodObject owner told inc count x (note_named x (top_of p) b i o).part
  good_note inc count i b o good = by (is_binding b o.recorded)
    where
      by : (e : Bool) → IsGoodObject owner told inc count x
          (cond {A = Served Named RecordedReply} e (reply o recorded.Yes) (note_other x (top_of p) b i o (at_uid (top_of p) o.made))).part
      by true = good
      by false = good_other inc count i b o (at_uid (top_of p) o.made) refl good

-- ---- ends

module _ (owner : Owners) (told later : Told) (inc count x : ℕ) (u : Uid) (o : Named) (now : IsToldOf told later u)
    (good : IsGoodObject owner told inc count x o) where
  -- whose owner isn't told later, its owner is another one and wasn't told before
  unended : (w : Uid) → later w ≡ false → (told w ≡ false) × (w ≢ u)
  unended w e =
      (false_from_ne_true (told w) (λ t. never (later w) (now.before w t) e), λ same. never (later w) (ap later same ∙ now.itself) e)

  unmade : (w : Uid) → later w ≡ true → at_uid w (without_uid u o.made) ≡ None
  unmade w e = ⊎_elim (λ same. ap (λ k. at_uid k (without_uid u o.made)) same ∙ without_same u o.made good.sorted) (λ other.
      without_other w u o.made other ∙ good.unmade w (⊎_elim (λ t. t) (λ same. absurd (other same)) (now.only w e))) (uid_cases w u)

  unasked : (w : Uid) → later w ≡ true → is_on (drop_uid u o.asked) w ≡ false
  unasked w e = false_from_ne_true (is_on (drop_uid u o.asked) w) (λ on. let d = on_drop w u o.asked on in
      ⊎_elim (λ t. never (is_on o.asked w) d.1 (good.unasked w t)) (λ same. d.0 same) (now.only w e))

  pub good_abort : IsGoodObject owner later inc count x (end_named u ending.Abort o)
  good_abort = record {
    rows = good_drop owner told later x u o.rows now.only good.rows;
    sorted = sorted_without u o.made good.sorted;
    unmade = unmade;
    unasked = unasked;
    asked = λ t on e. let d = on_drop t u o.asked on in let f = unended (owner t) e in
        stands_drop owner told x u t 2 o.rows good.rows d.0 f.1 (good.asked t d.1 f.0);
    made = λ t m found. good.made t m (without_cases t u m o.made good.sorted found).1;
    recorded = good.recorded;
    live = good.live;
    unrecorded = λ t m found not_yet e.
        let d = without_cases t u m o.made good.sorted found in
        let f = unended (owner t) e in
        let r = good.unrecorded t m d.1 not_yet f.0 in
        record { lock = stands_drop owner told x u t 2 o.rows good.rows d.0 f.1 r.lock; above = r.above };
  }

  pub good_commit : IsTop owner u → IsGoodObject owner later inc count x (end_named u ending.Commit o)
  good_commit top = record {
    rows = good_pass owner told later x u o.rows top good.rows now.only;
    sorted = sorted_without u o.made good.sorted;
    unmade = unmade;
    unasked = unasked;
    asked = λ t on e. let d = on_drop t u o.asked on in let f = unended (owner t) e in stands_pass u t 2 o.rows d.0 (good.asked t d.1 f.0);
    made = λ t m found. good.made t m (without_cases t u m o.made good.sorted found).1;
    recorded = good.recorded;
    live = good.live;
    unrecorded = λ t m found not_yet e.
        let d = without_cases t u m o.made good.sorted found in
        let f = unended (owner t) e in
        let r = good.unrecorded t m d.1 not_yet f.0 in
        record { lock = stands_pass u t 2 o.rows d.0 r.lock; above = r.above };
  }

  pub good_ended : (e : End) → (e ≡ ending.Commit → IsTop owner u) → IsGoodObject owner later inc count x (end_named u e o)
  good_ended ending.Abort top = good_abort
  good_ended ending.Commit top = good_commit (top refl)

-- ---- a server that comes back

pub good_hello : (owner : Owners) (told : Told) (inc count x node i : ℕ) (o : Named) → IsGoodObject owner told inc count x o →
    IsGoodObject owner told inc count x (hello_named node i o)
good_hello owner told inc count x node i o good = record {
  rows = good.rows;
  sorted = good.sorted;
  unmade = good.unmade;
  unasked = good.unasked;
  asked = good.asked;
  made = good.made;
  recorded = good.recorded;
  live = live o.live refl;
  unrecorded = λ t d found not_yet unended. let u = good.unrecorded t d found not_yet unended in record { lock = u.lock; above = u.above };
}
  where
    live : (l : Option Live) → o.live ≡ l → (k : Live) → live_after node i l ≡ Some k → o.recorded ≡ Some k.binding
    live None is k e = cc
    live (Some l) is k e = by ((l.server == node) && not (nat_le i l.inc)) e
      where
        by : (b : Bool) → cond b None (Some l) ≡ Some k → o.recorded ≡ Some k.binding
        by true h = cc
        by false h = let same : l ≡ k = cc in good.live k (is ∙ ap Some same)

-- ---- at the start

pub good_fresh : (owner : Owners) (told : Told) (inc count x : ℕ) (rows : List Row) → AreGoodRows owner told x rows →
    IsGoodObject owner told inc count x (unnamed rows)
good_fresh owner told inc count x rows good = record {
  rows = good;
  sorted = tt;
  unmade = λ u e. refl;
  unasked = λ u e. refl;
  asked = λ t on e. let no_way : false ≡ true = on in cc;
  made = λ t m found. let no_way : ◌≡◌ {A = Option Made} None (Some m) = found in cc;
  recorded = λ b is. let no_way : ◌≡◌ {A = Option Binding} None (Some b) = is in cc;
  live = λ l is. let no_way : ◌≡◌ {A = Option Live} None (Some l) = is in cc;
  unrecorded = λ t m found not_yet e. let no_way : ◌≡◌ {A = Option Made} None (Some m) = found in cc;
}
