-- Records and exclude locks, as acts.
use Rattle.arj_law_parts.proofs.Words
use Words.{◌≡◌, ◌≢◌, ◌⊎◌, ◌≤◌, ℕ, ◌==◌, ◌&&◌, ◌||◌, not, List, [], ◌∷◌, ◌++◌, Bool, true, false, cond, Option, Some, None, refl, sym, ◌∙◌}
use Words.{ap, subst, inl, inr, ⊎_elim, is_some, nat_le, arith, Contains, if◌then◌else◌, nat_lt, option_map, list_any, nat_tests, Mode}
use Words.{Read, Exclude, Row, last_uid, is_row_of, lower_row, mode_of, uid_is, uid_same, In as Stands, in_from, in_to, in_map, grant_clear}
use Words.{one_each_map, Uid, Binding, Path, RecordedReply, entry, first_conflict, grant_row, is_on, mode_code, uid_eq, top_of, top_path}
use Words.{conflict_in, lock_all, lock_in as lock_one, is_granted, Effect, Served, reply, void, Named, Made, conflict_on, entry_row, in_use}
use Words.{is_lowered, is_write_row, locked, lowered, note_named, note_other, Naming, is_over, note, on_named, at_number}
use Words.{at_uid, binding_eq, put_number, put_uid, uid_number, put_other as number_other, put_same as number_same, number_tells}
use Words.{one_or_two, is_binding}
use Words.mode
use Words.recorded
use Words.what
use Words.naming_named
use Words.order
use Rattle.arj_law_disk_view.proofs.Terms
use Terms.{World, IsNot, HasRow, IsUntold, Runs, end_of, Names, Office, acted, State, put, runs_keep, falls_to, never, or_cases, or_left}
use Terms.{or_right, put_cases, put_same, test_is, test_same, Kinds, IsNested, HasExclude, OnlyLocks, IsAlone, IsBehind, IsOfTop, NamesGo}
use Terms.{SeesNamed, SeesNaming, SeesRows, lock_in}
use Terms.names
use Rattle.arj_law_disk.specs.machine.Names.{Act}
use Rattle.arj_law_disk_view.proofs.names.Binding.{locked_named, may, only_same, other_object, path_untold, with_object}
use Rattle.arj_law_disk_view.proofs.names.Locks.{RowOf, row_behind}
use Rattle.arj_law_disk_view.specs.names.Calls.{ExcludesAreActs, IsUnrecorded, MayNote, NotesAreActs}
use Rattle.arj_lock.proofs.{Leaves.lower_mode, PassLeaves.has}
use Rattle.arj_law_disk.specs.machine.Names as machine
use Rattle.arj_law_disk_view.proofs.view.Keys as keys

-- ---- a lock that is lowered

abbrev lowers : ℕ → Uid → Row → Row
lowers x top row = cond (is_row_of (entry x) top row) (record row { mode = Read }) row

lowers_holder : (x : ℕ) (top : Uid) (row : Row) → (lowers x top row).holder ≡ row.holder
lowers_holder x top row = by (is_row_of (entry x) top row)
  where
    by : (b : Bool) → (cond b (record row { mode = Read }) row).holder ≡ row.holder
    by true = refl
    by false = refl

lowers_object : (x : ℕ) (top : Uid) (row : Row) → (lowers x top row).object ≡ row.object
lowers_object x top row = by (is_row_of (entry x) top row)
  where
    by : (b : Bool) → (cond b (record row { mode = Read }) row).object ≡ row.object
    by true = refl
    by false = refl

module _ (x : ℕ) (tops : Kinds) (top : Uid) (rows : List Row) (root : ℕ → ℕ) (row : ℕ → Option ℕ) (given : ℕ →
    Bool) (s : SeesRows x tops rows root row given) (write : row (uid_number top) ≡ Some 2) where
  abbrev t : ℕ
  t = uid_number top

  named_put : (n : ℕ) (h m : ℕ) → put t (Some n) row h ≡ Some m → (u : Uid) × (uid_number u ≡ h)
  named_put n h m = put_cases (λ z. z ≡ Some m →
      (u : Uid) × (uid_number u ≡ h)) t (Some n) row h (λ same is. (top, sym same)) (λ other is. s.named h m is)

  pub stays_rows : SeesRows x tops rows root (put (uid_number top) (Some 2) row) given
  stays_rows = record {
    one = s.one;
    objects = s.objects;
    holders = s.holders;
    kinds = s.kinds;
    row_is = λ u. put_cases (λ z. z ≡ lock_in x u rows) t (Some 2) row (uid_number u) (λ same. sym write ∙ ap row (sym same) ∙ s.row_is u)
        (λ other. s.row_is u);
    named = named_put 2;
  }

  pub lowered_rows : SeesRows x tops (lower_row top (entry x) rows) root (put (uid_number top) (Some 0) row) given
  lowered_rows = record {
    one = one_each_map (lowers x top) rows (lowers_object x top) (lowers_holder x top) s.one;
    objects = λ r c. let f = from r c in
        ap (λ (q : Row). q.object) (sym f.2) ∙ lowers_object x top f.0 ∙ s.objects f.0 (in_to f.0 rows f.1);
    holders = λ r c. let f = from r c in
        subst (λ us. IsAlone root given us ⊎ IsBehind root given us) (same f) (s.holders f.0 (in_to f.0 rows f.1));
    kinds = λ r c. let f = from r c in
        subst (λ us. IsNested tops (uid_number (last_uid us)) → ⊥) (same f) (s.kinds f.0 (in_to f.0 rows f.1));
    row_is = λ u. put_cases (λ z. z ≡ lock_in x u (lower_row top (entry x) rows)) t (Some 0) row (uid_number u)
        (λ e. let one : u ≡ top = number_tells u top e in
        low (mode_of (entry x) u rows) (ap row (sym e) ∙ (s.row_is u)) ∙ ap
        (λ b. option_map mode_code (cond b (option_map (λ (m : Mode). Read) (mode_of (entry x) u rows)) (mode_of (entry x) u rows)))
        (sym (own u one)) ∙ ap (option_map mode_code) (sym (lower_mode top (entry x) rows (entry x) u)))
        (λ other. s.row_is u ∙ ap (λ b. option_map mode_code (cond b (option_map (λ (m : Mode). Read) (mode_of (entry x) u rows)) (mode_of
        (entry x) u rows))) (sym (apart u other)) ∙ ap (option_map mode_code) (sym (lower_mode top (entry x) rows (entry x) u)));
    named = named_put 0;
  }
    where
      from : (r : Row) → Contains (lower_row top (entry x) rows) r → (q : Row) × Stands q rows × (lowers x top q ≡ r)
      from r c = in_map (lowers x top) r rows (in_from r (lower_row top (entry x) rows) c)

      same : {r : Row} (f : (q : Row) × Stands q rows × (lowers x top q ≡ r)) → f.0.holder ≡ r.holder
      same f = sym (lowers_holder x top f.0) ∙ ap (λ (q : Row). q.holder) f.2

      low : (o : Option Mode) → row t ≡ option_map mode_code o → Some 0 ≡ option_map mode_code (option_map (λ (m : Mode). Read) o)
      low None h = let no_way : ◌≡◌ {A = Option ℕ} (Some 2) None = sym write ∙ h in absurd (cc no_way)
      low (Some m) h = refl

      own : (u : Uid) → u ≡ top → (uid_eq (entry x) (entry x) && uid_eq u top) ≡ true
      own u one = (λ i. uid_same (entry x) i && (ap (λ w. uid_eq w top) one ∙ uid_same top) i)

      apart : (u : Uid) → (uid_number u == t) ≡ false → (uid_eq (entry x) (entry x) && uid_eq u top) ≡ false
      apart u other = (λ i. uid_same (entry x) i
          && falls_to (uid_eq u top) (λ e. never (ap (λ w. uid_number w == t) (uid_is u top e) ∙ test_same t) other) i)

-- ---- a Record of the object

module _ (x : ℕ) (tops : Kinds) (p : Path) (n : Naming) (A : Office) (o : Named) (c : names.Named A)
    (sees : SeesNaming x tops n A.world.disk A.names) (so : SeesNamed x tops o A.world.disk A.names) (of : IsOfTop tops A.world.disk p)
    (untold : IsUntold A.world.disk A.names (uid_number (top_of p))) (i : ℕ) (found : at_number x n.objects ≡ Some o)
    (b : Binding) (off : is_over p n ≡ false) (note_may : IsUnrecorded x p b n → (A.names.had (uid_number (top_of p)) A.names.inc ≡ true)
    × (A.names.asked (uid_number (top_of p)) ≡ false → IsNot A.world.disk.entry_pend (uid_number (top_of p)))) (r : RecordedReply) where
  abbrev u : ℕ
  u = uid_number (top_of p)

  abbrev N : Names
  N = A.names

  abbrev Goal : Served Named RecordedReply → Type 0
  Goal s = s.reply ≡ Some r →
      NamesGo A (λ B. OnlyLocks A B × SeesNaming x tops (record n { objects = put_number x s.part n.objects }) B.world.disk B.names)

  nothing : (q : RecordedReply) → Goal (reply o q)
  nothing q is = record {
    acts = [];
    may = tt;
    there = (only_same A, with_object x tops n o n.count A.world.disk A.names A.names sees refl refl refl so);
  }

  module _ (m : Made) (there : at_uid (top_of p) o.made ≡ Some m) (un : m.recorded ≡ false) (same : binding_eq b m.binding ≡ true) where
    write : N.row u ≡ Some 2
    write = so.made (top_of p) m there un untold

    lowered_is : is_lowered x (top_of p) (in_use (top_of p) m i o) ≡ not (N.asked u)
    lowered_is = λ k. any k && not (so.asked (top_of p) (λ nested. never of.top nested.0) untold k)
      where
        w : RowOf x (top_of p) 2 o.rows
        w = let s = so.rows in row_behind x (top_of p) 2 o.rows (sym (s.row_is (top_of p)) ∙ write)

        any : list_any (is_write_row (entry x) (top_of p)) o.rows ≡ true
        any = has (is_write_row (entry x) (top_of p)) w.row o.rows w.there (λ k. w.of k && nat_le 2 (w.mode k))

    abbrev Sees : Bool → Bool → Type 0
    Sees a b = SeesNamed x tops (if b then record (in_use (top_of p) m i o) { rows = lower_row (top_of p) (entry x) o.rows } else in_use
        (top_of p) m i o) A.world.disk (record N { row = put u (Some (if a then 2 else 0)) N.row; live = true })

    made_after : (k : ℕ) → (w : Uid) (q : Made) → at_uid w (put_uid (top_of p) (record m { recorded = true }) o.made) ≡ Some q →
        q.recorded ≡ false → IsUntold A.world.disk N (uid_number w) → put u (Some k) N.row (uid_number w) ≡ Some 2
    made_after k w q found off free = ⊎_elim
        (λ (own : (w ≡ top_of p) × (record m { recorded = true } ≡ q)). absurd (never (ap (λ (z : Made). z.recorded) (sym own.1)) off))
        (λ (other : (w ≢ top_of p) × (at_uid w o.made ≡ Some q)). put_cases (λ z. z ≡ Some 2) u (Some k) N.row (uid_number w)
        (λ same. absurd (other.0 (number_tells w (top_of p) same))) (λ apart. so.made w q other.1 off free))
        (keys.put_cases w (top_of p) (record m { recorded = true }) q o.made found)

    seen : (a : Bool) → Sees a (not a)
    seen true = record {
      rows = stays_rows x tops (top_of p) o.rows A.world.disk.root N.row N.given so.rows write;
      asked = so.asked;
      sorted = keys.sorted_put (top_of p) (record m { recorded = true }) o.made so.sorted;
      made = made_after 2;
      live = λ l is. refl;
    }
    seen false = record {
      rows = lowered_rows x tops (top_of p) o.rows A.world.disk.root N.row N.given so.rows write;
      asked = so.asked;
      sorted = keys.sorted_put (top_of p) (record m { recorded = true }) o.made so.sorted;
      made = made_after 0;
      live = λ l is. refl;
    }

    goes : (outs : List Effect) →
        Goal (record { part = lowered x (top_of p) (in_use (top_of p) m i o); outs = outs; reply = Some recorded.Yes })
    goes outs is = record {
      acts = machine.Lower u ∷ [];
      may = (
        let q = note_may (record { named = o; made = m; there = found; of = there; unrecorded = un; same = same; untold = off }) in
            record { held = write; had = q.0; clear = q.1 },
        tt,
      );
      there = (
        record { world = refl; inc = refl; told = refl; given = refl; confd = refl; had = refl; kept = refl; answers = λ a j. j },
        with_object x tops n (lowered x (top_of p) (in_use (top_of p) m i o)) n.count A.world.disk A.names (let B = acted A
            (machine.Lower u) in B.names) sees refl refl refl (subst (Sees (N.asked u)) (sym lowered_is) (seen (N.asked u))),
      );
    }

  by_made : (q : Option Made) → at_uid (top_of p) o.made ≡ q → Goal (note_other x (top_of p) b i o q)
  by_made None e = λ is. absurd (cc is)
  by_made (Some m) e = by (binding_eq b m.binding) (m.recorded) refl refl
    where
      by : (same rec : Bool) → binding_eq b m.binding ≡ same → m.recorded ≡ rec →
          Goal (if same then (if rec then reply o recorded.Yes else record {
            part = lowered x (top_of p) (in_use (top_of p) m i o);
            outs = naming_named.lower_lines x (top_of p) o;
            reply = Some recorded.Yes;
          }) else void o)
      by true true g f = nothing recorded.Yes
      by true false g f = goes m e f g (naming_named.lower_lines x (top_of p) o)
      by false rec g f = λ is. absurd (cc is)

  pub noted : Goal (note_named x (top_of p) b i o)
  noted = by (is_binding b o.recorded)
    where
      by : (k : Bool) → Goal (if k then reply o recorded.Yes else note_other x (top_of p) b i o (at_uid (top_of p) o.made))
      by true = nothing recorded.Yes
      by false = by_made (at_uid (top_of p) o.made) refl

-- ---- a Record

module _ (x : ℕ) (tops : Kinds) (p : Path) (b : Binding) (i g : ℕ) (n : Naming) (A : Office) (r : RecordedReply) (c : names.Named A)
    (sees : SeesNaming x tops n A.world.disk A.names) (of : IsOfTop tops A.world.disk p) where
  abbrev Note_goal : ℕ → Served Naming RecordedReply → Type 0
  Note_goal y s = MayNote x y p b g n A → s.reply ≡ Some r → NamesGo A (λ B. OnlyLocks A B × SeesNaming x tops s.part B.world.disk B.names)

  of_object : is_over p n ≡ false → g ≡ n.inc → (y : ℕ) (q : Option Named) → at_number y n.objects ≡ q →
      Note_goal y (on_named y (note_named y (top_of p) b i) n q)
  of_object off now y None e = λ note_may is. absurd (cc is)
  of_object off now y (Some o) e = ⊎_elim
      (λ (same : y ≡ x). subst (λ z. Note_goal z (on_named z (note_named z (top_of p) b i) n (Some o))) (sym same)
      (λ note_may. noted x tops p n A o c sees (sees.object o (ap (λ z. at_number z n.objects) (sym same) ∙ e)) of
      (path_untold x tops n A.world.disk A.names p sees of off) i (ap (λ z. at_number z n.objects) (sym same) ∙ e) b off
      (note_may refl (now ∙ sym sees.inc_is)) r))
      (λ other note_may is. record {
        acts = [];
        may = tt;
        there = (
          only_same A,
          other_object x y tops n (let s = note_named y (top_of p) b i o in s.part) n.count A.world.disk A.names other.0 sees,
        );
      })
      (one_or_two y x)

  pub noted_by_acts : (y : ℕ) → Note_goal y (note p y b i g n)
  noted_by_acts y = by (is_over p n) (is_some (at_number y n.objects)) (g == n.inc) refl refl
    where
      by : (over there now : Bool) → is_over p n ≡ over → (g == n.inc) ≡ now
          → Note_goal y (if over || not there then void n else (if now then on_named y (note_named y (top_of p) b i) n
          (at_number y n.objects) else reply n (recorded.Changed (what.Inc g n.inc))))
      by true there now e f = λ note_may is. absurd (cc is)
      by false false now e f = λ note_may is. absurd (cc is)
      by false true true e f = of_object e (test_is g n.inc f) y (at_number y n.objects) refl
      by false true false e f = λ note_may is. record { acts = []; may = tt; there = (only_same A, sees) }

pub notes_are_acts : NotesAreActs
notes_are_acts x y tops p b i g n A r c sees of note_may is = noted_by_acts x tops p b i g n A r c sees of y note_may is

-- ---- acts one after another

pub runs_both : (A : Office) (es fs : List Act) → Runs A es → Runs (end_of A es) fs → Runs A (es ++ fs)
runs_both A [] fs r q = q
runs_both A (e ∷ es) fs r q = (r.0, runs_both (acted A e) es fs r.1 q)

pub end_both : (A : Office) (es fs : List Act) → end_of A (es ++ fs) ≡ end_of (end_of A es) fs
end_both A [] fs = refl
end_both A (e ∷ es) fs = end_both (acted A e) es fs

only_both : (A B C : Office) → OnlyLocks A B → OnlyLocks B C → OnlyLocks A C
only_both A B C a b = record {
  world = b.world ∙ a.world;
  inc = b.inc ∙ a.inc;
  told = b.told ∙ a.told;
  given = b.given ∙ a.given;
  confd = b.confd ∙ a.confd;
  had = b.had ∙ a.had;
  kept = b.kept ∙ a.kept;
  answers = λ q i. b.answers q (a.answers q i);
}

-- ---- exclude locks

module _ (x : ℕ) (tops : Kinds) (p : Path) where
  abbrev Free : List ℕ → Naming → Type 0
  Free xs n = (y : ℕ) → order.has xs y ≡ true → conflict_in y p (at_number y n.objects) ≡ None

  on_own : (S : State) → IsOfTop tops S p → is_on (top_path p) (top_of p) ≡ true
  on_own S of = by of.path
    where
      by : ((top_path p ≡ top_of p ∷ []) × (S.root (uid_number (top_of p)) ≡ uid_number (top_of p)))
          ⊎ ((w : Uid) × (top_path p ≡ w ∷ top_of p ∷ []) × (S.root (uid_number (top_of p)) ≡ uid_number w)
          × (uid_eq w (top_of p) ≡ false) × (tops.is_serial (uid_number w) ≡ true)) → is_on (top_path p) (top_of p) ≡ true
      by (inl own) = ap (λ us. is_on us (top_of p)) own.0 ∙ or_left (uid_eq (top_of p) (top_of p)) false (uid_same (top_of p))
      by (inr (w, path, root, other, serial)) = ap (λ us. is_on us (top_of p)) path ∙ or_right (uid_eq w (top_of p))
          (uid_eq (top_of p) (top_of p) || false) (or_left (uid_eq (top_of p) (top_of p)) false (uid_same (top_of p)))

  -- a lock that is granted stands against none of the same top's
  still_free : (y : ℕ) (o : Named) → is_on (top_path p) (top_of p) ≡ true → conflict_on y p mode.Exclude o ≡ None →
      conflict_on y p mode.Exclude (locked y p mode.Exclude o) ≡ None
  still_free y o on free = by (is_granted (entry y) (top_of p) mode.Exclude o.rows)
    where
      by : (b : Bool) →
          first_conflict (top_path p) (entry y) mode.Exclude (cond b o.rows (grant_row (entry_row y p mode.Exclude) o.rows)) ≡ None
      by true = free
      by false = grant_clear (top_path p) (entry y) mode.Exclude (entry_row y p mode.Exclude) o.rows on free

  stays_free : (z : ℕ) (n : Naming) (q : Option Named) → at_number z n.objects ≡ q → is_on (top_path p) (top_of p) ≡ true → (y : ℕ) →
      conflict_in y p (at_number y n.objects) ≡ None →
      conflict_in y p (at_number y (let s = lock_one z p n q in let k = s.part in k.objects)) ≡ None
  stays_free z n None e on y free = free
  stays_free z n (Some o) e on y free = ⊎_elim
      (λ (same : z ≡ y). subst (λ k. conflict_in k p (at_number k (put_number z (locked z p mode.Exclude o) n.objects)) ≡ None) same
      (ap (conflict_in z p) (number_same z (locked z p mode.Exclude o) n.objects)
      ∙ still_free z o on (ap (conflict_in z p) (sym e) ∙ ap (λ k. conflict_in k p (at_number k n.objects)) same ∙ free)))
      (λ other. ap (conflict_in y p) (number_other z y (locked z p mode.Exclude o) n.objects other.0) ∙ free) (one_or_two z y)

  abbrev asker : ℕ
  asker = uid_number (top_of p)

  not_asked : (y : ℕ) (n : Naming) (A : Office) → (y ≡ x → is_some (at_number x n.objects) ≡ true → ⊥) → HasExclude x asker (y ∷ []) n A A
  not_asked y n A none = record {
    keeps = λ h. h;
    gets = λ on there. absurd (⊎_elim (λ e. none (test_is y x e) there) (λ (off : false ≡ true). cc off) (or_cases (y == x) false on));
  }

  raised_least : (o : Option ℕ) → 1 ≤ machine.raised o 1
  raised_least None = omega arith
  raised_least (Some n) = by (nat_lt n 1) refl
    where
      by : (b : Bool) → nat_lt n 1 ≡ b → 1 ≤ (if b then 1 else n)
      by true e = omega arith
      by false e = above e
        where
          above : nat_lt n 1 ≡ false → 1 ≤ n
          above h = grind (arith, nat_tests)

  abbrev One : ℕ → Naming → Option Named → Office → Office → Type 0
  One y n q A B =
      OnlyLocks A B × SeesNaming x tops (let s = lock_one y p n q in s.part) B.world.disk B.names × HasExclude x asker (y ∷ []) n A B

  one_lock : (y : ℕ) (n : Naming) (A : Office) (q : Option Named) → at_number y n.objects ≡ q → conflict_in y p q ≡ None → names.Named A →
      SeesNaming x tops n A.world.disk A.names → IsOfTop tops A.world.disk p → NamesGo A (One y n q A)
  one_lock y n A None e free c sees of = record {
    acts = [];
    may = tt;
    there = (only_same A, sees, not_asked y n A (λ same there. never there (ap is_some (ap (λ z. at_number z n.objects) (sym same) ∙ e))));
  }
  one_lock y n A (Some o) e free c sees of = ⊎_elim
      (λ (same : y ≡ x). subst (λ z. NamesGo A (One z n (Some o) A)) (sym same) (own
      (sees.object o (ap (λ z. at_number z n.objects) (sym same) ∙ e)) (ap (λ z. conflict_on z p mode.Exclude o) (sym same) ∙ free)))
      (λ other. record {
        acts = [];
        may = tt;
        there = (
          only_same A,
          other_object x y tops n (locked y p mode.Exclude o) n.count A.world.disk A.names other.0 sees,
          not_asked y n A (λ same there. never (ap (λ z. z == x) same ∙ test_same x) other.1),
        );
      })
      (one_or_two y x)
    where
      own : SeesNamed x tops o A.world.disk A.names → conflict_on x p mode.Exclude o ≡ None → NamesGo A (One x n (Some o) A)
      own so none = record {
        acts = machine.Exclude asker ∷ [];
        may = (may x tops p n A o c so of mode.Exclude none, tt);
        there = (
          record { world = refl; inc = refl; told = refl; given = refl; confd = refl; had = refl; kept = refl; answers = λ a j. j },
          with_object x tops n (locked x p mode.Exclude o) n.count A.world.disk A.names (let B = acted A (machine.Exclude asker) in
              B.names) sees refl refl refl
              (locked_named x tops p n A o c so of mode.Exclude A.names.asked A.names.live A.names.answers refl (λ h. h)),
          record { keeps = λ h. (has_it A); gets = λ on there. has_it A },
        );
      }
        where
          has_it : (A : Office) → HasRow (let B = acted A (machine.Exclude asker) in B.names) asker 1
          has_it A = (
            machine.raised (A.names.row asker) 1,
            put_same asker (Some (machine.raised (A.names.row asker) 1)) A.names.row,
            raised_least (A.names.row asker),
          )

  still_there : (z : ℕ) (n : Naming) (q : Option Named) → is_some (at_number x n.objects) ≡ true →
      is_some (at_number x (let s = lock_one z p n q in let k = s.part in k.objects)) ≡ true
  still_there z n None there = there
  still_there z n (Some o) there = ⊎_elim (λ (same : z ≡ x). ap (λ k. is_some (at_number k
      (put_number z (locked z p mode.Exclude o) n.objects))) (sym same) ∙ ap is_some (number_same z (locked z p mode.Exclude o) n.objects))
      (λ other. ap is_some (number_other z x (locked z p mode.Exclude o) n.objects other.0) ∙ there) (one_or_two z x)

  abbrev All : List ℕ → Naming → Office → Office → Type 0
  All xs n A B = OnlyLocks A B × SeesNaming x tops (let s = lock_all xs p n in s.part) B.world.disk B.names × HasExclude x asker xs n A B

  pub excludes : (xs : List ℕ) (n : Naming) (A : Office) → names.Named A → SeesNaming x tops n A.world.disk A.names →
      IsOfTop tops A.world.disk p → Free xs n → NamesGo A (All xs n A)
  excludes [] n A c sees of free =
      record { acts = []; may = tt; there = (only_same A, sees, record { keeps = λ h. h; gets = λ on there. absurd (cc on) }) }
  excludes (y ∷ ys) n A c sees of free =
      let first = one_lock y n A (at_number y n.objects) refl (free y (or_left (y == y) (order.has ys y) (test_same y))) c sees of in
      let B : Office = end_of A first.acts in
      let m : Naming = (let s = lock_one y p n (at_number y n.objects) in s.part) in
      let later = excludes ys m B (runs_keep A first.acts first.may c) first.there.1
      (subst (λ (W : World). IsOfTop tops W.disk p) (sym first.there.0.world) of)
      (λ z on. stays_free y n (at_number y n.objects) refl (on_own A.world.disk of) z (free z (or_right (y == z) (order.has ys z) on))) in
      record {
        acts = first.acts ++ later.acts;
        may = runs_both A first.acts later.acts first.may later.may;
        there = subst (All (y ∷ ys) n A) (sym (end_both A first.acts later.acts)) (
          only_both A B (end_of B later.acts) first.there.0 later.there.0,
          later.there.1,
          record {
            keeps = λ h. later.there.2.keeps (first.there.2.keeps h);
            gets = λ on there. ⊎_elim (λ here. later.there.2.keeps (first.there.2.gets (or_left (y == x) false here) there))
                (λ more. later.there.2.gets more (still_there y n (at_number y n.objects) there)) (or_cases (y == x) (order.has ys x) on);
          },
        );
      }

pub excludes_are_acts : ExcludesAreActs
excludes_are_acts x tops p xs n A c sees of free = excludes x tops p xs n A c sees of free
