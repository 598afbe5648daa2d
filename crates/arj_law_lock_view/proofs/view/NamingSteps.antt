-- Whole naming goes at a Bind, a Record and a Hello.
use Rattle.arj_law_parts.proofs.Words
use Words.{◌≡◌, ◌≤◌, ◌<◌, ◌∙◌, ◌==◌, ◌||◌, not, ℕ, List, [], ◌∷◌, Bool, true, false, cond, Option, Some, None, refl, sym, ap, subst, ⊎_elim}
use Words.{arith, is_some, list_any, is_eq, nat_cmp, or_parts, uid_is, Binding, BoundReply, Entry, Path, RecordedReply, Row, Uid, is_on}
use Words.{uid_eq, top_of, top_path, Pair, Served, reply, void, Counted, Live, Made, Named, bind_call, bind_made, bind_named, conflict_on}
use Words.{hello_named, include_asked, live_above, live_asked, made_above, make_asked, note_named, Naming, bind, is_over, listed_entry}
use Words.{note, on_counted, on_named, at_number, at_uid, binding_number, put_number, put_other, put_same, one_or_two}
use Words.mode
use Words.recorded
use Words.what
use Rattle.arj_law_lock_view.proofs.Terms
use Terms.{Act, stay, State, on_self, Told, Owners, each_at, Acts, IsUntold, Goes, NobodyConfirmed, NobodyTold, OnlyNaming, ShowsBound}
use Terms.{ShowsNoted, IsNamedSo, SeesNamed, HaveFirsts, SeesNaming, StandsFirst, place_of, View}
use Rattle.arj_law_lock_view.proofs.view
use view.{BindSteps.binds_are_seen, RunSteps.goes_to}
use view.FirstRows.{first_of, have_bound, have_noted}
use view.NoteSteps.{hellos_are_seen, notes_are_seen}
use Rattle.arj_law_lock_view.specs.view.Namings.{BindsAreTaken, HellosAreTaken, IsAsking, NotesAreTaken}

pub naming_itself : (S : State) → OnlyNaming S S
naming_itself S = record { rest = refl; bindings = λ b l. refl; sent = λ m i. i }

-- more bindings were made, of other objects
counted_more : (v : View) (n : Naming) (o : Named) (count : ℕ) (S : State) → n.count ≤ count → SeesNamed v.family.act v.x (place_of n) o S →
    SeesNamed v.family.act v.x (record (place_of n) { count = count }) o S
counted_more v n o count S more s = record {
  rows = s.rows;
  bound = let b = s.bound in omega (arith, b, more);
  first = s.first;
  recorded = s.recorded;
  unrecorded = s.unrecorded;
  known = s.known;
  live = s.live;
  made = s.made;
  asked = s.asked;
  making = s.making;
}

-- who stands on a path that isn't over wasn't told of
pub untold_on : (told : Told) (us : List Uid) → list_any told us ≡ false → (u : Uid) → is_on us u ≡ true → told u ≡ false
untold_on told [] none u there = absurd (cc there)
untold_on told (w ∷ us) none u there = by (uid_eq w u) refl (untold_on told us (or_parts (told w) (list_any told us) none).1 u) there
  where
    by : (b : Bool) → uid_eq w u ≡ b → (is_on us u ≡ true → told u ≡ false) → (b || is_on us u) ≡ true → told u ≡ false
    by true same rest on = subst (λ (z : Uid). told z ≡ false) (uid_is w u same) (or_parts (told w) (list_any told us) none).0
    by false other rest on = rest on

pub not_itself : (y x : ℕ) → (y == x) ≡ false → y ≡ x → ⊥
not_itself y x off same = (let one : (y == x) ≡ true = subst (λ (z : ℕ). (y == z) ≡ true) same (itself y) in cc (sym one ∙ off))
  where
    itself : (k : ℕ) → (k == k) ≡ true
    itself k = grind arith

-- a Bind counts up
made_counts : (inc x : ℕ) (p : Path) (e : Entry) (c : Counted) (m : Option Made) →
    c.count ≤ (let r = bind_made inc x p e c m in let w = r.part in w.count)
made_counts inc x p e c (Some m) = omega arith
made_counts inc x p e c None = omega arith

bind_counts : (inc x : ℕ) (p : Path) (include : Bool) (avoid : Binding) (e : Entry) (c : Counted) →
    c.count ≤ (let r = bind_named inc x p include avoid e c in let w = r.part in w.count)
bind_counts inc x p true avoid e c = by (conflict_on x p mode.Write c.named)
  where
    by : (r : Option Row) → c.count ≤ (let s = include_asked inc x p e c r in let w = s.part in w.count)
    by (Some r) = omega arith
    by None = omega arith
bind_counts inc x p false avoid e c = call (live_above avoid c.named.live)
  where
    live : (l : Live) (r : Option Row) → c.count ≤ (let s = live_asked inc x p e c l r in let w = s.part in w.count)
    live l (Some r) = omega arith
    live l None = omega arith

    new : (r : Option Row) → c.count ≤ (let s = make_asked inc x p avoid e c r in let w = s.part in w.count)
    new (Some r) = omega arith
    new None = made_counts inc x p e c (made_above avoid (at_uid (top_of p) c.named.made))

    call : (o : Option Live) → c.count ≤ (let s = bind_call inc x p avoid e c o in let w = s.part in w.count)
    call (Some l) = live l (conflict_on x p mode.Read c.named)
    call None = new (conflict_on x p mode.Write c.named)

module _ (v : View) (owner : Owners) (p : Path) (n : Naming) (S : State) (asking : IsAsking v owner p n) (sees : SeesNaming v n S) where
  abbrev act : Acts
  act = v.family.act

  -- an object is put back
  abbrev with_object : ℕ → Named → ℕ → Naming
  with_object y new count = record n { count = count; objects = put_number y new n.objects }

  -- it is the object
  own_put : (new : Named) (count : ℕ) (T : State) → NobodyTold S T → HaveFirsts act n.confirmed S.naming.confirmed new.rows →
      SeesNamed act v.x (record (place_of n) { count = count }) new T → SeesNaming v (with_object v.x new count) T
  own_put new count T none firsts s = record {
    named = new;
    there = put_same v.x new n.objects;
    seen = s;
    told = λ q topped fresh. ap (λ (f : Act → Bool). f (act (top_of q))) none.0 ∙ sees.told q topped fresh;
    confirmed = λ u h. sees.confirmed u (sym (ap (λ (f : Act → Bool). f (act u)) none.1.0) ∙ h);
    firsts = subst (λ (f : Act → Bool). HaveFirsts act n.confirmed f new.rows) (sym none.1.0) firsts;
  }

  -- or another one
  other_put : (y : ℕ) (new : Named) (count : ℕ) → n.count ≤ count → is_eq (nat_cmp v.x y) ≡ false → SeesNaming v (with_object y new count) S
  other_put y new count more apart = record {
    named = sees.named;
    there = put_other y v.x new n.objects apart ∙ sees.there;
    seen = counted_more v n sees.named count S more sees.seen;
    told = sees.told;
    confirmed = sees.confirmed;
    firsts = sees.firsts;
  }

  -- the locks of what is found
  firsts_found : (o : Named) → at_number v.x n.objects ≡ Some o → HaveFirsts act n.confirmed S.naming.confirmed o.rows
  firsts_found o found = (let one : sees.named ≡ o = cc (sym sees.there ∙ found) in
      subst (λ (z : Named). HaveFirsts act n.confirmed S.naming.confirmed z.rows) one sees.firsts)

  -- the path of the request
  own_first : StandsFirst act n.confirmed S.naming.confirmed (top_path p)
  own_first = let t = asking.topped in
      first_of act asking.one owner (top_path p) n.confirmed S.naming.confirmed (let f = asking.fits in f.holder) t.along t.top

  -- what is found is what is seen
  sees_found : (o : Named) → at_number v.x n.objects ≡ Some o → SeesNamed act v.x (place_of n) o S
  sees_found o found =
      (let one : sees.named ≡ o = cc (sym sees.there ∙ found) in subst (λ (z : Named). SeesNamed act v.x (place_of n) z S) one sees.seen)

  -- ---- a Bind

  module _ (include : Bool) (avoid : Binding) (d : Pair) where
    abbrev bound_by : ℕ → Named → Served Counted BoundReply
    bound_by y o = bind_named n.inc y p include avoid (listed_entry y d) (record { named = o; count = n.count })

    abbrev BindTakes : ℕ → Served Naming BoundReply → Type 0
    BindTakes y r =
        Goes S (λ T. SeesNaming v r.part T × OnlyNaming S T × NobodyConfirmed S T × (y ≡ v.x → ShowsBound act (top_of p) avoid T r.reply))

    bind_void : (y : ℕ) → BindTakes y (void n)
    bind_void y = record { state = S; run = stay; holds = (sees, naming_itself S, refl, λ same. tt) }

    bind_own : binding_number avoid < S.naming.bound → (o : Named) → at_number v.x n.objects ≡ Some o →
        BindTakes v.x (on_counted v.x (bind_named n.inc v.x p include avoid (listed_entry v.x d)) n (Some o))
    bind_own before o found = goes_to
        (binds_are_seen act owner v.x (place_of n) o p include avoid (listed_entry v.x d) S asking.one asking.topped before
        (asking.good o found) (sees_found o found))
        (λ T g. (
          own_put (let c = (bound_by v.x o).part in c.named) (let c = (bound_by v.x o).part in
              c.count) T g.2 (have_bound (StandsFirst act n.confirmed S.naming.confirmed) p own_first n.inc v.x (listed_entry v.x d)
              (record { named = o; count = n.count }) (firsts_found o found) include avoid) g.0,
          g.1,
          g.2.1.1,
          λ same. g.3,
        ))

    bind_other : (y : ℕ) (o : Named) → (y == v.x) ≡ false → is_eq (nat_cmp v.x y) ≡ false →
        BindTakes y (on_counted y (bind_named n.inc y p include avoid (listed_entry y d)) n (Some o))
    bind_other y o off apart = record {
      state = S;
      run = stay;
      holds = (
        other_put y (let c = (bound_by y o).part in c.named) (let c = (bound_by y o).part in
            c.count) (bind_counts n.inc y p include avoid (listed_entry y d) (record { named = o; count = n.count })) apart,
        naming_itself S,
        refl,
        λ same. absurd (not_itself y v.x off same),
      );
    }

    pub bind_taken : (y : ℕ) → (y ≡ v.x → binding_number avoid < S.naming.bound) → BindTakes y (bind p y include avoid d n)
    bind_taken y before = by (is_over p n) (at_number y n.objects) refl
      where
        here : (o : Named) → at_number y n.objects ≡ Some o →
            BindTakes y (on_counted y (bind_named n.inc y p include avoid (listed_entry y d)) n (Some o))
        here o found = ⊎_elim
            (λ (same : y ≡ v.x). subst (λ (z : ℕ). BindTakes z (on_counted z (bind_named n.inc z p include avoid (listed_entry z d)) n
            (Some o))) (sym same) (bind_own (before same) o (ap (λ (z : ℕ). at_number z n.objects) (sym same) ∙ found)))
            (λ apart. bind_other y o apart.1 apart.0)
            (one_or_two y v.x)

        by : (over : Bool) (o : Option Named) → at_number y n.objects ≡ o →
            BindTakes y (cond over (void n) (on_counted y (bind_named n.inc y p include avoid (listed_entry y d)) n o))
        by true o found = bind_void y
        by false None found = bind_void y
        by false (Some o) found = here o found

  -- ---- a Record

  module _ (b : Binding) (i : ℕ) where
    abbrev NoteTakes : ℕ → Served Naming RecordedReply → Type 0
    NoteTakes y r = Goes S (λ T. SeesNaming v r.part T × OnlyNaming S T × NobodyConfirmed S T × (y ≡ v.x → ShowsNoted b T r.reply))

    note_own : is_over p n ≡ false → IsNamedSo S b i → (o : Named) → at_number v.x n.objects ≡ Some o →
        NoteTakes v.x (on_named v.x (note_named v.x (top_of p) b i) n (Some o))
    note_own fresh named o found = goes_to
        (notes_are_seen act owner v.x (place_of n) o (top_of p) b i S asking.one untold named (asking.good o found) (sees_found o found))
        (λ T g. (
          own_put (let r = note_named v.x (top_of p) b i o in r.part) n.count T g.2
              (have_noted (StandsFirst act n.confirmed S.naming.confirmed) v.x (top_of p) b i o (firsts_found o found)) g.0,
          g.1,
          g.2.1.1,
          λ same. g.3,
        ))
      where
        untold : IsUntold act owner (place_of n) S (top_of p)
        untold = record {
          own = apart (top_of p) top_there;
          above = apart (owner (top_of p)) (let f = asking.fits in f.owned);
          seen = sees.told p asking.topped fresh;
        }
          where
            apart : (u : Uid) → is_on (top_path p) u ≡ true → is_on n.told u ≡ false
            apart u there = untold_on (is_on n.told) (top_path p) fresh u there

            -- the top stands on its path
            top_there : is_on (top_path p) (top_of p) ≡ true
            top_there = let t = asking.topped in let a = t.along in a.alone (top_of p) (on_self (act (top_of p)))

    note_other : (y : ℕ) (o : Named) → (y == v.x) ≡ false → is_eq (nat_cmp v.x y) ≡ false →
        NoteTakes y (on_named y (note_named y (top_of p) b i) n (Some o))
    note_other y o off apart = record {
      state = S;
      run = stay;
      holds = (
        other_put y (let r = note_named y (top_of p) b i o in r.part) n.count (omega arith) apart,
        naming_itself S,
        refl,
        λ same. absurd (not_itself y v.x off same),
      );
    }

    pub note_taken : (y g : ℕ) → (y ≡ v.x → IsNamedSo S b i) → NoteTakes y (note p y b i g n)
    note_taken y g named = by (is_over p n) refl (at_number y n.objects) refl (g == n.inc)
      where
        nothing : NoteTakes y (void n)
        nothing = record { state = S; run = stay; holds = (sees, naming_itself S, refl, λ same. tt) }

        changed : NoteTakes y (reply n (recorded.Changed (what.Inc g n.inc)))
        changed = record { state = S; run = stay; holds = (sees, naming_itself S, refl, λ same. tt) }

        here : is_over p n ≡ false → (o : Named) → at_number y n.objects ≡ Some o →
            NoteTakes y (on_named y (note_named y (top_of p) b i) n (Some o))
        here fresh o found = ⊎_elim
            (λ (same : y ≡ v.x). subst (λ (z : ℕ). NoteTakes z (on_named z (note_named z (top_of p) b i) n (Some o))) (sym same)
            (note_own fresh (named same) o (ap (λ (z : ℕ). at_number z n.objects) (sym same) ∙ found)))
            (λ apart. note_other y o apart.1 apart.0)
            (one_or_two y v.x)

        by : (over : Bool) → is_over p n ≡ over → (o : Option Named) → at_number y n.objects ≡ o → (ours : Bool)
            → NoteTakes y (cond (over || not (is_some o)) (void n)
            (cond ours (on_named y (note_named y (top_of p) b i) n o) (reply n (recorded.Changed (what.Inc g n.inc)))))
        by true is o found ours = nothing
        by false is None found ours = nothing
        by false is (Some o) found true = here is o found
        by false is (Some o) found false = changed

pub binds_are_taken : BindsAreTaken
binds_are_taken v owner p y include avoid d n S asking before sees = bind_taken v owner p n S asking sees include avoid d y before

pub notes_are_taken : NotesAreTaken
notes_are_taken v owner p y b i g n S asking named sees = note_taken v owner p n S asking sees b i y g named

pub hellos_are_taken : HellosAreTaken
hellos_are_taken v node inc n S sees = record {
  named = hello_named node inc sees.named;
  there = each_at (λ y. hello_named node inc) v.x n.objects sees.named sees.there;
  seen = hellos_are_seen v.family.act v.x (place_of n) sees.named node inc S sees.seen;
  told = sees.told;
  confirmed = sees.confirmed;
  firsts = sees.firsts;
}
