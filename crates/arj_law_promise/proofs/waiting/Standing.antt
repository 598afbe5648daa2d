-- The last binding that naming made for a top stays the last, or a greater one comes, until naming is told of the top's end.
use Rattle.arj_law_parts.proofs.Words
use Words.{Bool, List, None, Option, Some, [], arith, cond, false, inl, inr, not, refl, subst, sym, true, ℕ, ◌==◌, ◌||◌, ◌&&◌, ◌+◌, ◌*◌}
use Words.{◌∙◌, ◌∷◌, ◌≡◌, ◌≢◌, ◌≤◌, ⊎_elim, ap, ⊤, is_some, is_eq, nat_cmp, Binding, BoundReply, ConfirmedReply, End, Entry, ObjectState}
use Words.{Path, RecordedReply, Row, Uid, entry, is_on, lower_row, uid_eq, top_of, Grants, Marks, checked, confirm, confirm_entries}
use Words.{confirm_new, confirms, entries_after, has_all, lock_all, lock_in, prepared_by, wanted, Already, Did, InDoubt, Old, Pair, Prep}
use Words.{Ready, Served, did_nothing, is_prepared, prepare_answer, reply, void, Counted, Live, Made, Named, bind_call, bind_made}
use Words.{bind_named, conflict_on, end_named, hello_named, in_use, include_asked, is_lowered, live_above, live_asked, locked}
use Words.{lower_lines, lowered, made_above, make_asked, next_server, note_made, note_named, note_other, Naming, is_over, listed_entry}
use Words.{on_counted, on_named, taken_end, told_new, at_number, at_uid, binding_eq, binding_less, binding_number, each, put_number}
use Words.{put_uid, uid_is, uid_same, nat_tests, is_binding}
use Words.bound
use Words.confirmed
use Words.ending
use Words.mode
use Words.recorded
use Words.what
use Words.naming
use Words.maps
use Rattle.arj_law_promise.proofs.Terms.{put_other, put_same, with_on, without_other, some_is, HasMade, StandsIn}
use Rattle.arj_law_parts.proofs.parts.Pairs.{each_at}

-- ---- one object

-- what it made for the top isn't less
abbrev pub MadeIn : Named → Uid → Binding → Type 0
MadeIn o u b = (m : Made) × (at_uid u o.made ≡ Some m) × (binding_number b ≤ binding_number m.binding)

-- so it stays
abbrev pub Stays : Named → Named → Type 0
Stays o v = (u : Uid) (b : Binding) → MadeIn o u b → MadeIn v u b

-- each binding is of this incarnation, and counted
abbrev pub Counts : ℕ → ℕ → Named → Type 0
Counts inc count o = (u : Uid) (m : Made) → at_uid u o.made ≡ Some m →
    ((let b = m.binding in b.inc) ≡ inc) × ((let b = m.binding in b.count) ≤ count)

put_stays : (o : Named) (top : Uid) (new : Made) (v : Named) → v.made ≡ put_uid top new o.made →
    ((m : Made) → at_uid top o.made ≡ Some m → binding_number m.binding ≤ binding_number new.binding) → Stays o v
put_stays o top new v is up u b w = by (uid_eq u top) refl
  where
    by : (c : Bool) → uid_eq u top ≡ c → MadeIn v u b
    by true same =
        let one : u ≡ top = uid_is u top same in (
          new,
          ap (at_uid u) is ∙ ap (λ z. at_uid z (put_uid top new o.made)) one ∙ put_same top new o.made,
          le (binding_number b) (binding_number w.0.binding) (binding_number new.binding) w.2
              (up w.0 (ap (λ z. at_uid z o.made) (sym one) ∙ w.1)),
        )
      where
        le : (a b c : ℕ) → a ≤ b → b ≤ c → a ≤ c
        le a b c x y = omega (arith, x, y)
    by false apart = (
      w.0,
      ap (at_uid u) is ∙ put_other u top new o.made
          (λ one. let no_way : true ≡ false = sym (ap (λ z. uid_eq z top) one ∙ uid_same top) ∙ apart in absurd (cc no_way)) ∙ w.1,
      w.2,
    )

-- ---- all objects

module _ (x : ℕ) (o v : Named) (objects : List (ℕ × Named)) (there : at_number x objects ≡ Some o) (stays : Stays o v) where
  pub put_made : (u : Uid) (y : ℕ) (b : Binding) → HasMade objects u y b → HasMade (put_number x v objects) u y b
  put_made u y b w = by (is_eq (nat_cmp y x)) refl
    where
      number_is : (a b : ℕ) → is_eq (nat_cmp a b) ≡ true → a ≡ b
      number_is a b is = grind (arith, nat_tests, is)

      by : (c : Bool) → is_eq (nat_cmp y x) ≡ c → HasMade (put_number x v objects) u y b
      by true same =
          let one : y ≡ x = number_is y x same in
          let its : o ≡ w.named = some_is (sym there ∙ ap (λ z. at_number z objects) (sym one) ∙ w.there) in
          let s = stays u b (w.made, ap (λ (z : Named). at_uid u z.made) its ∙ w.of, w.above) in
          record {
            named = v;
            made = s.0;
            there = ap (λ z. at_number z (put_number x v objects)) one ∙ maps.put_same x v objects;
            of = s.1;
            above = s.2;
          }
      by false apart =
          record { named = w.named; made = w.made; there = maps.put_other x y v objects apart ∙ w.there; of = w.of; above = w.above }

-- What naming goes on to: it is of the same incarnation, and what stood stands.
abbrev pub Goes : Naming → Naming → Type 0
Goes n v = (v.inc ≡ n.inc) × ((u : Uid) (x : ℕ) (b : Binding) → StandsIn n u x b → StandsIn v u x b)

pub goes_same : (n : Naming) → Goes n n
goes_same n = (refl, λ u x b s. s)

-- ---- a Bind

module _ (p : Path) (inc x : ℕ) (e : Entry) (avoid : Binding) (c : Counted) (counts : Counts inc c.count c.named) where
  -- the answer names a binding that stands
  abbrev Makes : Named → Option BoundReply → Type 0
  Makes o (Some (bound.Make b server g stores)) = (g ≡ inc) × MadeIn o (top_of p) b
  Makes o _ = ⊤

  abbrev Fine : Served Counted BoundReply → Type 0
  Fine r = Stays c.named (let q = r.part in q.named) × Makes (let q = r.part in q.named) r.reply

  live_fine : (l : Live) (r : Option Row) → Fine (live_asked inc x p e c l r)
  live_fine l (Some r) = ((λ u b w. w), tt)
  live_fine l None = ((λ u b w. w), tt)

  made_fine : (q : Option Made) → ((m : Made) → q ≡ Some m → at_uid (top_of p) c.named.made ≡ Some m) → Fine (bind_made inc x p e c q)
  made_fine (Some m) was = ((λ u b w. w), (refl, (m, was m refl, omega arith)))
  made_fine None was =
      let b : Binding = record { inc = inc; count = c.count + 1 } in
      let new : Made = record { binding = b; server = next_server c.named.turn e.servers; recorded = false } in
      let v : Named = let s = bind_made inc x p e c None in let q = s.part in q.named in (
        put_stays c.named (top_of p) new v refl (λ m is. let k = counts (top_of p) m is in
            up m.binding.inc inc m.binding.count c.count k.0 k.1),
        (refl, (new, put_same (top_of p) new c.named.made, omega arith)),
      )
    where
      up : (i j a b : ℕ) → i ≡ j → a ≤ b → i * 4294967296 + a ≤ j * 4294967296 + (b + 1)
      up i j a b same le = omega (arith, same, le)

  above_is : (q : Option Made) (m : Made) → made_above avoid q ≡ Some m → q ≡ Some m
  above_is None m is = absurd (cc is)
  above_is (Some z) m is = by (not z.recorded && binding_less avoid z.binding) is
    where
      by : (b : Bool) → cond b (Some z) None ≡ Some m → Some z ≡ Some m
      by true same = same
      by false same = absurd (cc same)

  make_fine : (r : Option Row) → Fine (make_asked inc x p avoid e c r)
  make_fine (Some r) = ((λ u b w. w), tt)
  make_fine None = made_fine (made_above avoid (at_uid (top_of p) c.named.made)) (λ m is. above_is (at_uid (top_of p) c.named.made) m is)

  call_fine : (l : Option Live) → Fine (bind_call inc x p avoid e c l)
  call_fine (Some l) = live_fine l (conflict_on x p mode.Read c.named)
  call_fine None = make_fine (conflict_on x p mode.Write c.named)

  include_fine : (r : Option Row) → Fine (include_asked inc x p e c r)
  include_fine (Some r) = ((λ u b w. w), tt)
  include_fine None = ((λ u b w. w), tt)

  named_fine : (include : Bool) → Fine (bind_named inc x p include avoid e c)
  named_fine true = include_fine (conflict_on x p mode.Write c.named)
  named_fine false = call_fine (live_above avoid c.named.live)

-- an answer that names a new binding: it is of this incarnation, and stands
abbrev pub MakeStands : Naming → Path → ℕ → Option BoundReply → Type 0
MakeStands n p x (Some (bound.Make b server g stores)) = (g ≡ n.inc) × StandsIn n (top_of p) x b
MakeStands n p x _ = ⊤

pub bind_stands : (p : Path) (x : ℕ) (include : Bool) (avoid : Binding) (d : Pair) (n : Naming) →
    ((y : ℕ) (o : Named) → at_number y n.objects ≡ Some o → Counts n.inc n.count o)
    → (let r = naming.bind p x include avoid d n in Goes n r.part × MakeStands r.part p x r.reply)
bind_stands p x include avoid d n counts = by (is_over p n)
  where
    Fits : Served Naming BoundReply → Type 0
    Fits r = Goes n r.part × MakeStands r.part p x r.reply

    there : (q : Option Named) → at_number x n.objects ≡ q → Fits (on_counted x (bind_named n.inc x p include avoid (listed_entry x d)) n q)
    there None is = (goes_same n, tt)
    there (Some o) is =
        ((refl, λ u y b s. ⊎_elim (λ t. inl t) (λ w. inr (put_made x o r.part.named n.objects is f.0 u y b w)) s), makes r.reply f.1)
      where
        c : Counted
        c = record { named = o; count = n.count }

        r : Served Counted BoundReply
        r = bind_named n.inc x p include avoid (listed_entry x d) c

        f : Stays o r.part.named × Makes p n.inc x (listed_entry x d) avoid c (counts x o is) r.part.named r.reply
        f = named_fine p n.inc x (listed_entry x d) avoid c (counts x o is) include

        makes : (q : Option BoundReply) → Makes p n.inc x (listed_entry x d) avoid c (counts x o is) r.part.named q →
            MakeStands (record n { count = r.part.count; objects = put_number x r.part.named n.objects }) p x q
        makes (Some (bound.Make b server g stores)) m = (
          m.0,
          inr (record { named = r.part.named; made = m.1.0; there = maps.put_same x r.part.named n.objects; of = m.1.1; above = m.1.2 }),
        )
        makes (Some (bound.Live b server i g stores)) m = tt
        makes (Some (bound.Write g stores)) m = tt
        makes (Some (bound.Conflict z l)) m = tt
        makes None m = tt

    by : (b : Bool) →
        Fits (cond b (void n) (on_counted x (bind_named n.inc x p include avoid (listed_entry x d)) n (at_number x n.objects)))
    by true = (goes_same n, tt)
    by false = there (at_number x n.objects) refl

-- ---- all else that naming does

put_goes : (x : ℕ) (o v : Named) (n : Naming) → at_number x n.objects ≡ Some o → Stays o v →
    Goes n (record n { objects = put_number x v n.objects })
put_goes x o v n is stays = (refl, λ u y b s. ⊎_elim (λ t. inl t) (λ w. inr (put_made x o v n.objects is stays u y b w)) s)

goes_on : (n m v : Naming) → Goes n m → Goes m v → Goes n v
goes_on n m v a b = (b.0 ∙ a.0, λ u x c s. b.1 u x c (a.1 u x c s))

noted_stays : (x : ℕ) (top : Uid) (b : Binding) (i : ℕ) (o : Named) → Stays o (let r = note_named x top b i o in r.part)
noted_stays x top b i o = by (is_binding b o.recorded)
  where
    Left : Served Named RecordedReply → Type 0
    Left r = Stays o r.part

    used : (m : Made) → at_uid top o.made ≡ Some m → (v : Named) → v.made ≡ put_uid top (record m { recorded = true }) o.made → Stays o v
    used m is v same = put_stays o top (record m { recorded = true }) v same
        (λ k there. subst (λ (z : Made). binding_number k.binding ≤ binding_number z.binding) (some_is (sym there ∙ is)) (omega arith))

    low : (v : Named) → (let l = lowered x top v in l.made) ≡ v.made
    low v = at (is_lowered x top v)
      where
        at : (b : Bool) → (let l = cond b (record v { rows = lower_row top (entry x) v.rows }) v in l.made) ≡ v.made
        at true = refl
        at false = refl

    other : (q : Option Made) → at_uid top o.made ≡ q → Left (note_other x top b i o q)
    other None is = λ u c w. w
    other (Some m) is = at (binding_eq b m.binding)
      where
        at : (e : Bool) → Left (cond {A = Served Named RecordedReply} e (note_made x top i o m) (void o))
        at true = one m.recorded
          where
            one : (w : Bool) → Left (cond {A = Served Named RecordedReply} w (reply o recorded.Yes)
                (record { part = lowered x top (in_use top m i o); outs = lower_lines x top o; reply = Some recorded.Yes }))
            one true = λ u c w. w
            one false = used m is (lowered x top (in_use top m i o)) (low (in_use top m i o))
        at false = λ u c w. w

    by : (e : Bool) → Left (cond {A = Served Named RecordedReply} e (reply o recorded.Yes) (note_other x top b i o (at_uid top o.made)))
    by true = λ u c w. w
    by false = other (at_uid top o.made) refl

pub note_goes : (p : Path) (x : ℕ) (b : Binding) (i g : ℕ) (n : Naming) → Goes n (let r = naming.note p x b i g n in r.part)
note_goes p x b i g n = by (is_over p n) (is_some (at_number x n.objects)) (g == n.inc)
  where
    there : (q : Option Named) → at_number x n.objects ≡ q → Goes n (let r = on_named x (note_named x (top_of p) b i) n q in r.part)
    there None is = goes_same n
    there (Some o) is = put_goes x o (let r = note_named x (top_of p) b i o in r.part) n is (noted_stays x (top_of p) b i o)

    by : (over known ours : Bool) →
        Goes n (let r = cond {A = Served Naming RecordedReply} (over || not known) (void n) (cond {A = Served Naming RecordedReply} ours
        (on_named x (note_named x (top_of p) b i) n (at_number x n.objects)) (reply n (recorded.Changed (what.Inc g n.inc)))) in r.part)
    by true known ours = goes_same n
    by false false ours = goes_same n
    by false true true = there (at_number x n.objects) refl
    by false true false = goes_same n

each_goes : (f : ℕ → Named → Named) (objects : List (ℕ × Named)) (u : Uid) (x : ℕ) (b : Binding) →
    ((o : Named) → (let v = f x o in at_uid u v.made) ≡ at_uid u o.made) → HasMade objects u x b → HasMade (each f objects) u x b
each_goes f objects u x b same w =
    record { named = f x w.named; made = w.made; there = each_at f x objects w.named w.there; of = same w.named ∙ w.of; above = w.above }

pub told_goes : (u : Uid) (e : End) (d : Pair) (n : Naming) → Goes n (let r = naming.told u e d n in r.part)
told_goes u e d n = by (is_on n.told u)
  where
    after : Naming
    after = let t = told_new u (taken_end u e n) d n in t.part

    ended : (h : End) (w : Uid) → w ≢ u → (o : Named) → (let v = end_named u h o in at_uid w v.made) ≡ at_uid w o.made
    ended ending.Commit w apart o = without_other w u o.made apart
    ended ending.Abort w apart o = without_other w u o.made apart

    stands : (w : Uid) (x : ℕ) (b : Binding) → StandsIn n w x b → StandsIn after w x b
    stands w x b (inl t) = inl (with_on w u n.told (inr t))
    stands w x b (inr m) = one (uid_eq w u) refl
      where
        one : (c : Bool) → uid_eq w u ≡ c → StandsIn after w x b
        one true same = inl (with_on w u n.told (inl (uid_is w u same)))
        one false apart = inr (each_goes (λ y. end_named u (taken_end u e n)) n.objects w x b (ended (taken_end u e n) w
            (λ same. let no_way : true ≡ false = sym (ap (λ z. uid_eq z u) same ∙ uid_same u) ∙ apart in absurd (cc no_way))) m)

    by : (b : Bool) → Goes n (let t = cond {A = Did Naming} b (did_nothing n) (told_new u (taken_end u e n) d n) in t.part)
    by true = goes_same n
    by false = (refl, stands)

pub hello_goes : (node inc : ℕ) (n : Naming) → Goes n (naming.hello node inc n)
hello_goes node inc n =
    (refl, λ u x b s. ⊎_elim (λ t. inl t) (λ w. inr (each_goes (λ y. hello_named node inc) n.objects u x b (λ o. refl) w)) s)

pub confirm_goes : (p : Path) (grants : Grants) (excluded included : Marks) (d : Pair) (n : Naming) →
    Goes n (let r = confirm p grants excluded included d n in r.part)
confirm_goes p grants excluded included d n = by (is_over p n) (has_all grants n) (is_on n.confirmed (top_of p) || is_prepared (top_of p) d)
  where
    locks_one : (x : ℕ) (m : Naming) (q : Option Named) → at_number x m.objects ≡ q → Goes m (let r = lock_in x p m q in r.part)
    locks_one x m None is = goes_same m
    locks_one x m (Some o) is = put_goes x o (locked x p mode.Exclude o) m is (λ u b w. w)

    locks : (xs : List ℕ) (m : Naming) → Goes m (let r = lock_all xs p m in r.part)
    locks [] m = goes_same m
    locks (x ∷ xs) m = let v : Naming = let r = lock_in x p m (at_number x m.objects) in r.part in
        goes_on m v (let r = lock_all xs p v in r.part) (locks_one x m (at_number x m.objects) refl) (locks xs v)

    ready : (top : Uid) (states : List ObjectState) (t : Did Naming) → Goes n t.part → (q : Prep) →
        Goes n (let r = prepared_by top states t q in r.part)
    ready top states t its Ready = (its.0, λ u x b s. its.1 u x b s)
    ready top states t its (InDoubt u v) = its
    ready top states t its (Already u) = its
    ready top states t its (Old u v) = its

    entries : (top : Uid) (states : List ObjectState) (t : Did Naming) → Goes n t.part →
        Goes n (let r = confirm_entries top states d t in r.part)
    entries top [] t its = (its.0, λ u x b s. its.1 u x b s)
    entries top (s ∷ ss) t its = ready top (s ∷ ss) t its (prepare_answer top (s ∷ ss) d)

    new : (q : Option ConfirmedReply) → Goes n (let r = confirm_new p grants excluded included d n q in r.part)
    new (Some r) = goes_same n
    new None = entries (top_of p) (entries_after (top_of p) grants excluded included d) (lock_all (wanted (top_of p) grants excluded d) p n)
        (locks (wanted (top_of p) grants excluded d) n)

    by : (over known done : Bool) → Goes n (let r = cond {A = Served Naming ConfirmedReply} (over || not known) (void n)
        (cond {A = Served Naming ConfirmedReply} done (reply (confirms (top_of p) n) confirmed.Yes)
        (confirm_new p grants excluded included d n (checked p grants excluded included d n))) in r.part)
    by true known done = goes_same n
    by false false done = goes_same n
    by false true true = (refl, λ u x b s. s)
    by false true false = new (checked p grants excluded included d n)
