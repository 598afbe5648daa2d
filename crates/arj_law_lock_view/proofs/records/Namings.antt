-- Naming goes on, and what its answers claim is so: for tests that pass for what it has once it has answered.
use Rattle.arj_law_parts.proofs.Words
use Words.{◌≡◌, ◌≢◌, ◌≤◌, ◌+◌, ◌*◌, ◌==◌, ◌||◌, ◌&&◌, ℕ, Bool, true, false, cond, not, List, Option, Some, None, refl, sym, ◌∙◌, ap, subst}
use Words.{inl, inr, ⊎_elim, arith, nat_lt, eqb-true, IfSome, is_some, and_parts, Uid, Binding, BoundReply, Entry, Path, RecordedReply, Row}
use Words.{entry, is_on, lower_row, top_of, Pair, Served, reply, void, Counted, Live, Made, Named, bind_call, bind_made, bind_named}
use Words.{conflict_on, in_use, include_asked, is_lowered, live_above, live_asked, lower_lines, lowered, made_above, make_asked}
use Words.{next_server, note_made, note_named, note_other, Naming, is_over, listed_entry, on_counted, on_named, at_number, at_uid}
use Words.{binding_eq, binding_less, binding_number, has, put_number, put_other, put_same, one_or_two, is_binding}
use Words.mode
use Words.recorded
use Words.what
use Words.naming
use Rattle.arj_law_lock_view.proofs.Terms
use Terms.{Action, AreBegun, owners_of, IsAsker, IsGoodObject, IsUnrecorded, Untold, Fits, begun_fits, untold_path, owner_untold, never}
use Terms.{some_is, HoldsObjects, SaysBound, SaysNoted, AreBelowLast, PassesNaming, Tests}
use Terms.keys

pub none_not : {A P : Type 0} {x : A} → None ≡ Some x → P
none_not {A} {P} {x} is = let no_way : ◌≡◌ {A = Option A} None (Some x) = is in absurd (cc no_way)

-- ---- naming goes on

-- one object: the recorded binding doesn't fall, who asked is known, or told of, and a binding that isn't recorded yet was made before, or
-- is new
pub record NamedGrows (n p : Naming) (o q : Named) : Type 0 where
  pub recorded : (b : Binding) → o.recorded ≡ Some b → (c : Binding) × (q.recorded ≡ Some c) × (binding_number b ≤ binding_number c)
  pub asked : (u : Uid) → (is_on o.asked u || is_on n.told u) ≡ true → (is_on q.asked u || is_on p.told u) ≡ true
  pub made : (u : Uid) (m : Made) → at_uid u q.made ≡ Some m → m.recorded ≡ false →
      binding_number m.binding ≤ binding_number (record { inc = n.inc; count = n.count }) → at_uid u o.made ≡ Some m

pub record Grows (n p : Naming) : Type 0 where
  pub inc : p.inc ≡ n.inc
  pub count : n.count ≤ p.count
  pub objects : (x : ℕ) (o : Named) → at_number x n.objects ≡ Some o → (q : Named) × (at_number x p.objects ≡ Some q) × NamedGrows n p o q

pub passes_grown : (T : Tests) (n p : Naming) → Grows n p → PassesNaming T p → PassesNaming T n
passes_grown T n p grows passes = record {
  made = λ v le. passes.made v (more v n.inc n.count p.inc p.count le grows.inc grows.count);
  objects = λ x o is. let f = grows.objects x o is in let g = f.2 in let w = passes.objects x f.0 f.1 in record {
    recorded = λ b v at le. let r = g.recorded b at in w.recorded r.0 v r.1 (less v (binding_number b) (binding_number r.0) le r.2);
    asked = λ u on. subst (λ i. T.asked x u i ≡ true) grows.inc (w.asked u (g.asked u on));
  };
}
  where
    more : (v i c j e : ℕ) → v ≤ i * 4294967296 + c → j ≡ i → c ≤ e → v ≤ j * 4294967296 + e
    more v i c j e le same up = omega (arith, le, same, up)

    less : (a b c : ℕ) → a ≤ b → b ≤ c → a ≤ c
    less a b c i j = omega (arith, i, j)

pub same_grows : (n : Naming) → Grows n n
same_grows n = record {
  inc = refl;
  count = omega arith;
  objects = λ x o is. (o, is, record { recorded = λ b at. (b, at, omega arith); asked = λ u on. on; made = λ u m is un old. is });
}

pub then_grows : (n p q : Naming) → Grows n p → Grows p q → Grows n q
then_grows n p q a b = record {
  inc = b.inc ∙ a.inc;
  count = less n.count p.count q.count a.count b.count;
  objects = λ x o is. let f = a.objects x o is in let g = b.objects x f.0 f.1 in (
    g.0,
    g.1,
    record {
      recorded = λ z at. let s = f.2.recorded z at in let t = g.2.recorded s.0 s.1 in
          (t.0, t.1, less (binding_number z) (binding_number s.0) (binding_number t.0) s.2 t.2);
      asked = λ u on. g.2.asked u (f.2.asked u on);
      made = λ u m is un old.
          f.2.made u m (g.2.made u m is un (more (binding_number m.binding) n.inc n.count p.inc p.count old a.inc a.count)) un old;
    },
  );
}
  where
    less : (a b c : ℕ) → a ≤ b → b ≤ c → a ≤ c
    less a b c i j = omega (arith, i, j)

    more : (v i c j e : ℕ) → v ≤ i * 4294967296 + c → j ≡ i → c ≤ e → v ≤ j * 4294967296 + e
    more v i c j e le same up = omega (arith, le, same, up)

-- one object is put
pub put_grows : (x : ℕ) (o q : Named) (count : ℕ) (n : Naming) → at_number x n.objects ≡ Some o → n.count ≤ count →
    ((b : Binding) → o.recorded ≡ Some b → (c : Binding) × (q.recorded ≡ Some c) × (binding_number b ≤ binding_number c)) →
    ((u : Uid) → is_on o.asked u ≡ true → is_on q.asked u ≡ true)
    → ((u : Uid) (m : Made) → at_uid u q.made ≡ Some m → m.recorded ≡ false →
    binding_number m.binding ≤ binding_number (record { inc = n.inc; count = n.count }) → at_uid u o.made ≡ Some m) →
    Grows n (record n { count = count; objects = put_number x q n.objects })
put_grows x o q count n found up recorded asked made = record {
  inc = refl;
  count = up;
  objects = λ y z is. ⊎_elim
      (λ same. let e : o ≡ z = some_is (sym found ∙ ap (λ j. at_number j n.objects) same ∙ is) in (
        q,
        ap (λ j. at_number j (put_number x q n.objects)) (sym same) ∙ put_same x q n.objects,
        record {
          recorded = λ b at. recorded b (ap (λ (w : Named). w.recorded) e ∙ at);
          asked = λ u on. either u (is_on z.asked u) (is_on n.told u) refl on (ap (λ (w : Named). is_on w.asked u) e);
          made = λ u m at un old. sym (ap (λ (w : Named). at_uid u w.made) e) ∙ made u m at un old;
        },
      ))
      (λ apart. (
        z,
        put_other x y q n.objects apart.0 ∙ is,
        record { recorded = λ b at. (b, at, omega arith); asked = λ u on. on; made = λ u m at un old. at },
      )) (one_or_two x y);
}
  where
    either : (u : Uid) (a t : Bool) → is_on n.told u ≡ t → (a || t) ≡ true → is_on o.asked u ≡ a → (is_on q.asked u || t) ≡ true
    either u true t is on was = ap (λ w. w || t) (asked u was)
    either u false true is on was = or_right (is_on q.asked u)
      where
        or_right : (w : Bool) → (w || true) ≡ true
        or_right true = refl
        or_right false = refl
    either u false false is on was = absurd (cc on)

-- ---- a Bind

-- what a Bind leaves of the object
pub record BindsSo (x : ℕ) (p : Path) (inc : ℕ) (avoid : Binding) (c : Counted) (r : Served Counted BoundReply) : Type 0 where
  pub more : c.count ≤ (let v = r.part in v.count)
  pub less : (let v = r.part in v.count) ≤ c.count + 1
  pub recorded : (let v = r.part in let q = v.named in q.recorded) ≡ (let q = c.named in q.recorded)
  pub asked : (u : Uid) → is_on (let q = c.named in q.asked) u ≡ true → is_on (let v = r.part in let q = v.named in q.asked) u ≡ true
  pub below : AreBelowLast c.named → AreBelowLast (let v = r.part in v.named)
  pub made : (u : Uid) (m : Made) → at_uid u (let v = r.part in let q = v.named in q.made) ≡ Some m →
      binding_number m.binding ≤ inc * 4294967296 + c.count → at_uid u (let q = c.named in q.made) ≡ Some m

module _ (x : ℕ) (p : Path) (inc : ℕ) (e : Entry) (c : Counted) (avoid : Binding) where
  abbrev So : Served Counted BoundReply → Type 0
  So r = BindsSo x p inc avoid c r

  unchanged : (r : BoundReply) → So (reply c r)
  unchanged r =
      record { more = omega arith; less = omega arith; recorded = refl; asked = λ u on. on; below = λ b. b; made = λ u m is old. is }

  live_so : (l : Live) (r : Option Row) → So (live_asked inc x p e c l r)
  live_so l (Some r) = unchanged _
  live_so l None =
      record { more = omega arith; less = omega arith; recorded = refl; asked = λ u on. on; below = λ b. b; made = λ u m is old. is }

  made_so : (m : Option Made) → So (bind_made inc x p e c m)
  made_so (Some m) =
      record { more = omega arith; less = omega arith; recorded = refl; asked = λ u on. on; below = λ b. b; made = λ u m is old. is }
  made_so None = record {
    more = omega arith;
    less = omega arith;
    recorded = refl;
    asked = λ u on. on;
    below = λ b u m is rec. ⊎_elim
        (λ (own : (u ≡ top_of p) × (new ≡ m)). absurd (never rec (ap (λ (z : Made). z.recorded) (sym own.1))))
        (λ (old : (u ≢ top_of p) × (at_uid u c.named.made ≡ Some m)). b u m old.1 rec) (keys.put_cases u (top_of p) new m c.named.made is);
    made = λ u m is old. ⊎_elim
        (λ (own : (u ≡ top_of p) × (new ≡ m)).
        absurd (too_great inc c.count (binding_number m.binding) (ap (λ (z : Made). binding_number z.binding) own.1) old))
        (λ (other : (u ≢ top_of p) × (at_uid u c.named.made ≡ Some m)). other.1) (keys.put_cases u (top_of p) new m c.named.made is);
  }
    where
      new : Made
      new = record { binding = record { inc = inc; count = c.count + 1 }; server = next_server c.named.turn e.servers; recorded = false }

      too_great : (i n v : ℕ) → i * 4294967296 + (n + 1) ≡ v → v ≤ i * 4294967296 + n → ⊥
      too_great i n v same le = omega (arith, same, le)

  make_so : (r : Option Row) → So (make_asked inc x p avoid e c r)
  make_so (Some r) = unchanged _
  make_so None = made_so (made_above avoid (at_uid (top_of p) c.named.made))

  call_so : (l : Option Live) → So (bind_call inc x p avoid e c l)
  call_so (Some l) = live_so l (conflict_on x p mode.Read c.named)
  call_so None = make_so (conflict_on x p mode.Write c.named)

  include_so : (r : Option Row) → So (include_asked inc x p e c r)
  include_so (Some r) = unchanged _
  include_so None = record {
    more = omega arith;
    less = omega arith;
    recorded = refl;
    asked = λ u on. keys.with_on u (top_of p) c.named.asked (inr on);
    below = λ b. b;
    made = λ u m is old. is;
  }

  bound_so : (include : Bool) → So (bind_named inc x p include avoid e c)
  bound_so true = include_so (conflict_on x p mode.Write c.named)
  bound_so false = call_so (live_above avoid c.named.live)

-- a Bind is answered so: what it grants is above what it avoids, live is what was recorded, and who asked by an include is known
module _ (T : Tests) (x : ℕ) (p : Path) (inc : ℕ) (e : Entry) (c : Counted) (avoid : Binding) where
  -- what the tests say of what is left
  record Left (q : Counted) : Type 0 where
    made : (v : ℕ) → v ≤ inc * 4294967296 + q.count → T.made v ≡ true
    recorded : (b : Binding) (v : ℕ) → q.named.recorded ≡ Some b → v ≤ binding_number b → T.past x v ≡ true
    asked : (u : Uid) → is_on q.named.asked u ≡ true → T.asked x u inc ≡ true
    listed : (v s : ℕ) → v ≤ inc * 4294967296 + q.count → has e.stores s ≡ true → T.listed x v s ≡ true

  module _ (low : T.low inc ≡ true) (live_is : (l : Live) → c.named.live ≡ Some l → c.named.recorded ≡ Some l.binding) (counted : (b :
      Binding) → c.named.recorded ≡ Some b → (b.inc ≡ inc) × (b.count ≤ c.count)) (made_is : (m : Made) → at_uid (top_of p) c.named.made
      ≡ Some m → (m.binding.inc ≡ inc) × (m.binding.count ≤ c.count)) (short : binding_number avoid ≤ inc * 4294967296 + c.count) where
    abbrev Says : Served Counted BoundReply → Type 0
    Says r = Left r.part → IfSome r.reply (SaysBound T x avoid (top_of p))

    number : (i n j m : ℕ) → i ≡ j → n ≤ m → i * 4294967296 + n ≤ j * 4294967296 + m
    number i n j m same le = omega (arith, same, le)

    live_says : (l : Live) → c.named.live ≡ Some l → binding_less avoid l.binding ≡ true → (r : Option Row) →
        Says (live_asked inc x p e c l r)
    live_says l is above (Some r) left = tt
    live_says l is above None left = let z = counted l.binding (live_is l is) in (
      left.recorded l.binding (binding_number l.binding) (live_is l is) (omega arith),
      left.made (binding_number l.binding) (number l.binding.inc l.binding.count inc c.count z.0 z.1),
      above,
      low,
    )

    above_is : (a i n : ℕ) → a ≤ i * 4294967296 + n → nat_lt a (i * 4294967296 + (n + 1)) ≡ true
    above_is a i n le = grind (arith, le)

    made_says : (q : Option Made) → at_uid (top_of p) c.named.made ≡ q → Says (bind_made inc x p e c (made_above avoid q))
    made_says None is left = (
      left.made (binding_number (record { inc = inc; count = c.count + 1 })) (omega arith),
      above_is (binding_number avoid) inc c.count short,
      low,
      λ s on. left.listed (binding_number (record { inc = inc; count = c.count + 1 })) s (omega arith) on,
    )
    made_says (Some m) is left = by (not m.recorded && binding_less avoid m.binding) refl left
      where
        by : (b : Bool) → (not m.recorded && binding_less avoid m.binding) ≡ b → Says (bind_made inc x p e c (cond b (Some m) None))
        by true on left = let z = made_is m is in (
          left.made (binding_number m.binding) (number m.binding.inc m.binding.count inc c.count z.0 z.1),
          (and_parts (not m.recorded) (binding_less avoid m.binding) on).1,
          low,
          λ s has_it. left.listed (binding_number m.binding) s (number m.binding.inc m.binding.count inc c.count z.0 z.1) has_it,
        )
        by false off left = (
          left.made (binding_number (record { inc = inc; count = c.count + 1 })) (omega arith),
          above_is (binding_number avoid) inc c.count short,
          low,
          λ s on. left.listed (binding_number (record { inc = inc; count = c.count + 1 })) s (omega arith) on,
        )

    make_says : (r : Option Row) → Says (make_asked inc x p avoid e c r)
    make_says (Some r) left = tt
    make_says None left = made_says (at_uid (top_of p) c.named.made) refl left

    call_says : (l : Option Live) → c.named.live ≡ l → Says (bind_call inc x p avoid e c (live_above avoid l))
    call_says None is = make_says (conflict_on x p mode.Write c.named)
    call_says (Some l) is = by (binding_less avoid l.binding) refl
      where
        by : (b : Bool) → binding_less avoid l.binding ≡ b → Says (bind_call inc x p avoid e c (cond b (Some l) None))
        by true on = live_says l is on (conflict_on x p mode.Read c.named)
        by false off = make_says (conflict_on x p mode.Write c.named)

    include_says : (r : Option Row) → Says (include_asked inc x p e c r)
    include_says (Some r) left = tt
    include_says None left = (left.asked (top_of p) (keys.with_on (top_of p) (top_of p) c.named.asked (inl refl)), low)

    named_says : (include : Bool) → Says (bind_named inc x p include avoid e c)
    named_says true = include_says (conflict_on x p mode.Write c.named)
    named_says false = call_says c.named.live refl

-- ---- naming's calls

-- They pass for the stores that entries list, of bindings that were given.
abbrev pub ListsPass : Tests → Pair → Naming → Type 0
ListsPass T d n = (x v s : ℕ) → v ≤ binding_number (record { inc = n.inc; count = n.count }) →
    has (let e = listed_entry x d in e.stores) s ≡ true → T.listed x v s ≡ true

-- each object's recorded bindings aren't above the last one
abbrev pub AllBelow : Naming → Type 0
AllBelow n = (x : ℕ) (o : Named) → at_number x n.objects ≡ Some o → AreBelowLast o

pub put_below : (x : ℕ) (q : Named) (count : ℕ) (n : Naming) → AreBelowLast q → AllBelow n →
    AllBelow (record n { count = count; objects = put_number x q n.objects })
put_below x q count n its all y z is = ⊎_elim
    (λ same. subst AreBelowLast (some_is (sym (put_same x q n.objects) ∙ ap (λ j. at_number j (put_number x q n.objects)) same ∙ is)) its)
    (λ apart. all y z (sym (put_other x y q n.objects apart.0) ∙ is)) (one_or_two x y)

pub bind_grows : (p : Path) (x : ℕ) (include : Bool) (avoid : Binding) (d : Pair) (n : Naming) →
    (let s = naming.bind p x include avoid d n in Grows n s.part × (AllBelow n → AllBelow s.part))
bind_grows p x include avoid d n = by (is_over p n)
  where
    Good : Served Naming BoundReply → Type 0
    Good s = Grows n s.part × (AllBelow n → AllBelow s.part)

    there : (q : Option Named) → at_number x n.objects ≡ q → Good (on_counted x (bind_named n.inc x p include avoid (listed_entry x d)) n q)
    there None is = (same_grows n, λ all. all)
    there (Some o) is =
        let c : Counted = record { named = o; count = n.count } in
        let r = bind_named n.inc x p include avoid (listed_entry x d) c in
        let s : BindsSo x p n.inc avoid c r = bound_so x p n.inc (listed_entry x d) c avoid include in (
          put_grows x o r.part.named r.part.count n is s.more (λ b at. (b, s.recorded ∙ at, omega arith)) s.asked
              (λ u m at un old. s.made u m at old),
          λ all. put_below x r.part.named r.part.count n (s.below (all x o is)) all,
        )

    by : (b : Bool) →
        Good (cond b (void n) (on_counted x (bind_named n.inc x p include avoid (listed_entry x d)) n (at_number x n.objects)))
    by true = (same_grows n, λ all. all)
    by false = there (at_number x n.objects) refl

pub bind_counts : (p : Path) (x : ℕ) (include : Bool) (avoid : Binding) (d : Pair) (n : Naming) →
    (let s = naming.bind p x include avoid d n in let m = s.part in m.count) ≤ n.count + 1
bind_counts p x include avoid d n = by (is_over p n)
  where
    there : (q : Option Named) →
        (let s = on_counted x (bind_named n.inc x p include avoid (listed_entry x d)) n q in let m = s.part in m.count) ≤ n.count + 1
    there None = omega arith
    there (Some o) = let s : BindsSo x p n.inc avoid (record { named = o; count = n.count })
        (bind_named n.inc x p include avoid (listed_entry x d) (record { named = o; count = n.count })) = bound_so x p n.inc
        (listed_entry x d) (record { named = o; count = n.count }) avoid include in s.less

    by : (b : Bool) → (let s = cond b (void n) (on_counted x (bind_named n.inc x p include avoid (listed_entry x d)) n
        (at_number x n.objects)) in let m = s.part in m.count) ≤ n.count + 1
    by true = omega arith
    by false = there (at_number x n.objects)

pub bind_says : (T : Tests) (acts : List Action) (p : Path) (x : ℕ) (include : Bool) (avoid : Binding) (d : Pair) (n : Naming) →
    HoldsObjects acts n → T.low n.inc ≡ true → binding_number avoid ≤ binding_number (record { inc = n.inc; count = n.count })
    → (let s = naming.bind p x include avoid d n in
    PassesNaming T s.part → ListsPass T d s.part → IfSome s.reply (SaysBound T x avoid (top_of p)))
bind_says T acts p x include avoid d n holds low short = by (is_over p n)
  where
    Good : Served Naming BoundReply → Type 0
    Good s = PassesNaming T s.part → ListsPass T d s.part → IfSome s.reply (SaysBound T x avoid (top_of p))

    there : (q : Option Named) → at_number x n.objects ≡ q → Good (on_counted x (bind_named n.inc x p include avoid (listed_entry x d)) n q)
    there None is passes lists = tt
    there (Some o) is passes lists =
        let c : Counted = record { named = o; count = n.count } in
        let r = bind_named n.inc x p include avoid (listed_entry x d) c in
        let g = holds.objects x o is in
        let w = passes.objects x r.part.named (put_same x r.part.named n.objects) in
        named_says T x p n.inc (listed_entry x d) c avoid low (λ l at. g.live l at) (λ b at. g.recorded b at)
        (λ m at. (g.made (top_of p) m at).1) short include
        (record {
          made = passes.made;
          recorded = w.recorded;
          asked = λ u on. w.asked u (or_first (is_on n.told u) on);
          listed = λ v s le on. lists x v s le on;
        })
      where
        or_first : {a : Bool} (b : Bool) → a ≡ true → (a || b) ≡ true
        or_first b on = ap (λ z. z || b) on

    by : (b : Bool) →
        Good (cond b (void n) (on_counted x (bind_named n.inc x p include avoid (listed_entry x d)) n (at_number x n.objects)))
    by true passes lists = tt
    by false passes lists = there (at_number x n.objects) refl passes lists

-- ---- a Record

-- what a Record leaves of the object, and answers
record NotesSo (T : Tests) (x : ℕ) (b : Binding) (o : Named) (r : Served Named RecordedReply) : Type 0 where
  recorded : (c : Binding) → o.recorded ≡ Some c → (e : Binding) × (r.part.recorded ≡ Some e) × (binding_number c ≤ binding_number e)
  asked : r.part.asked ≡ o.asked
  below : AreBelowLast r.part
  made : (u : Uid) (m : Made) → at_uid u r.part.made ≡ Some m → m.recorded ≡ false → at_uid u o.made ≡ Some m
  says : ((c : Binding) (v : ℕ) → r.part.recorded ≡ Some c → v ≤ binding_number c → T.past x v ≡ true) → IfSome r.reply (SaysNoted T x b)

module _ (T : Tests) (x : ℕ) (top : Uid) (b : Binding) (i : ℕ) (o : Named) (below : AreBelowLast o) (above : (m : Made) →
    at_uid top o.made ≡ Some m → m.recorded ≡ false → (c : Binding) → o.recorded ≡ Some c → binding_less c m.binding ≡ true) where
  abbrev Noted : Served Named RecordedReply → Type 0
  Noted r = NotesSo T x b o r

  stays : (q : RecordedReply) →
      (((c : Binding) (v : ℕ) → o.recorded ≡ Some c → v ≤ binding_number c → T.past x v ≡ true) → SaysNoted T x b q) → Noted (reply o q)
  stays q says = record { recorded = λ c at. (c, at, omega arith); asked = refl; below = below; made = λ u m is un. is; says = says }

  unsaid : Noted (void o)
  unsaid = record { recorded = λ c at. (c, at, omega arith); asked = refl; below = below; made = λ u m is un. is; says = λ past. tt }

  at_most : (a c : ℕ) → a ≡ c → a ≤ c
  at_most a c same = omega (arith, same)

  less : (a c : ℕ) → nat_lt a c ≡ true → a ≤ c
  less a c lt = grind (arith, lt)

  used_so : (m : Made) → at_uid top o.made ≡ Some m → m.recorded ≡ false → binding_number b ≡ binding_number m.binding → (l : Bool) →
      Noted (record {
        part = cond l (record (in_use top m i o) { rows = lower_row top (entry x) o.rows }) (in_use top m i o);
        outs = lower_lines x top o;
        reply = Some recorded.Yes;
      })
  used_so m is un same l = by l
    where
      kept : AreBelowLast (in_use top m i o)
      kept u z at rec = ⊎_elim
          (λ (own : (u ≡ top) × (record m { recorded = true } ≡ z)). (
            m.binding,
            refl,
            at_most (binding_number z.binding) (binding_number m.binding) (ap (λ (w : Made). binding_number w.binding) (sym own.1)),
          ))
          (λ (old : (u ≢ top) × (at_uid u o.made ≡ Some z)). let f = below u z old.1 rec in (
            m.binding,
            refl,
            upto (binding_number z.binding) (binding_number f.0) (binding_number m.binding) f.2
                (less (binding_number f.0) (binding_number m.binding) (above m is un f.0 f.1)),
          ))
          (keys.put_cases u top (record m { recorded = true }) z o.made at)
        where
          upto : (a c e : ℕ) → a ≤ c → c ≤ e → a ≤ e
          upto a c e x y = omega (arith, x, y)

      still : (u : Uid) (z : Made) → at_uid u (in_use top m i o).made ≡ Some z → z.recorded ≡ false → at_uid u o.made ≡ Some z
      still u z at un = ⊎_elim
          (λ (own : (u ≡ top) × (record m { recorded = true } ≡ z)). absurd (never (ap (λ (w : Made). w.recorded) (sym own.1)) un))
          (λ (old : (u ≢ top) × (at_uid u o.made ≡ Some z)). old.1) (keys.put_cases u top (record m { recorded = true }) z o.made at)

      by : (l : Bool) → Noted (record {
        part = cond l (record (in_use top m i o) { rows = lower_row top (entry x) o.rows }) (in_use top m i o);
        outs = lower_lines x top o;
        reply = Some recorded.Yes;
      })
      by true = record {
        recorded = λ c at. (m.binding, refl, less (binding_number c) (binding_number m.binding) (above m is un c at));
        asked = refl;
        below = kept;
        made = still;
        says = λ past. past m.binding (binding_number b) refl (at_most (binding_number b) (binding_number m.binding) same);
      }
      by false = record {
        recorded = λ c at. (m.binding, refl, less (binding_number c) (binding_number m.binding) (above m is un c at));
        asked = refl;
        below = kept;
        made = still;
        says = λ past. past m.binding (binding_number b) refl (at_most (binding_number b) (binding_number m.binding) same);
      }

  made_noted : (m : Made) → at_uid top o.made ≡ Some m → binding_number b ≡ binding_number m.binding → (rec : Bool) → m.recorded ≡ rec →
      Noted (cond {A = Served Named RecordedReply} rec (reply o recorded.Yes)
      (record { part = lowered x top (in_use top m i o); outs = lower_lines x top o; reply = Some recorded.Yes }))
  made_noted m is same true rec = let f = below top m is rec in
      stays recorded.Yes (λ past. past f.0 (binding_number b) f.1 (subst (λ n. n ≤ binding_number f.0) (sym same) f.2))
  made_noted m is same false rec = used_so m is rec same (is_lowered x top (in_use top m i o))

  other_noted : (q : Option Made) → at_uid top o.made ≡ q → Noted (note_other x top b i o q)
  other_noted None is = unsaid
  other_noted (Some m) is = by (binding_eq b m.binding) refl
    where
      by : (e : Bool) → binding_eq b m.binding ≡ e → Noted (cond {A = Served Named RecordedReply} e (note_made x top i o m) (void o))
      by true on = made_noted m is (eqb-true (binding_number b) (binding_number m.binding) on) m.recorded refl
      by false off = unsaid

  noted_so : Noted (note_named x top b i o)
  noted_so = by (is_binding b o.recorded) refl
    where
      same_last : (q : Option Binding) → o.recorded ≡ q → is_binding b q ≡ true →
          ((c : Binding) (v : ℕ) → o.recorded ≡ Some c → v ≤ binding_number c → T.past x v ≡ true) → T.past x (binding_number b) ≡ true
      same_last None is on past = absurd (cc on)
      same_last (Some c) is on past =
          past c (binding_number b) is (at_most (binding_number b) (binding_number c) (eqb-true (binding_number b) (binding_number c) on))

      by : (e : Bool) → is_binding b o.recorded ≡ e →
          Noted (cond {A = Served Named RecordedReply} e (reply o recorded.Yes) (note_other x top b i o (at_uid top o.made)))
      by true on = stays recorded.Yes (λ past. same_last o.recorded refl on past)
      by false off = other_noted (at_uid top o.made) refl

-- naming at a Record: it goes on, and its answer is so
pub note_grows : (T : Tests) (acts : List Action) → AreBegun acts → (p : Path) → IsAsker acts p →
    (x : ℕ) (b : Binding) (i g : ℕ) (n : Naming) → HoldsObjects acts n → AllBelow n
    → (let s = naming.note p x b i g n in Grows n s.part × AllBelow s.part × (PassesNaming T s.part → IfSome s.reply (SaysNoted T x b)))
note_grows T acts begun p who x b i g n holds all = by (is_over p n) (is_some (at_number x n.objects)) (g == n.inc) refl
  where
    Good : Served Naming RecordedReply → Type 0
    Good s = Grows n s.part × AllBelow s.part × (PassesNaming T s.part → IfSome s.reply (SaysNoted T x b))

    nothing : Good (void n)
    nothing = (same_grows n, all, λ passes. tt)

    fits : Fits (owners_of acts) p
    fits = subst (Fits (owners_of acts)) who.2 (begun_fits acts begun who.0 who.1 who.3)

    there : Untold (is_on n.told) p → (q : Option Named) → at_number x n.objects ≡ q → Good (on_named x (note_named x (top_of p) b i) n q)
    there untold None is = nothing
    there untold (Some o) is =
        let r = note_named x (top_of p) b i o in
        let good : IsGoodObject (owners_of acts) (is_on n.told) n.inc n.count x o = holds.objects x o is in
        let s : NotesSo T x b o r = noted_so T x (top_of p) b i o (all x o is) (λ m at un c rec. let w : IsUnrecorded (top_of p) m o =
        good.unrecorded (top_of p) m at un (owner_untold (owners_of acts) (is_on n.told) x p fits untold) in w.above c rec) in (
          put_grows x o r.part n.count n is (omega arith) s.recorded (λ u on. ap (λ us. is_on us u) s.asked ∙ on)
              (λ u m at un old. s.made u m at un),
          put_below x r.part n.count n s.below all,
          λ passes. let w = passes.objects x r.part (put_same x r.part n.objects) in s.says w.recorded,
        )

    by : (over known ours : Bool) → is_over p n ≡ over →
        Good (cond {A = Served Naming RecordedReply} (over || not known) (void n) (cond {A = Served Naming RecordedReply} ours
        (on_named x (note_named x (top_of p) b i) n (at_number x n.objects)) (reply n (recorded.Changed (what.Inc g n.inc)))))
    by true known ours is = nothing
    by false false ours is = nothing
    by false true true is = there (untold_path p n is) (at_number x n.objects) refl
    by false true false is = (same_grows n, all, λ passes. tt)
