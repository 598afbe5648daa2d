-- Store lists that a root keeps, as the machine has them.
use Rattle.arj_law_parts.proofs.Words
use Words.{◌≡◌, ◌⊎◌, ◌+◌, ◌*◌, ℕ, ◌==◌, ◌&&◌, ◌||◌, List, [], ◌∷◌, Bool, true, false, cond, Option, Some, None, refl, sym, ◌∙◌, ap, subst}
use Words.{inl, inr, ⊎_elim, arith, filter, map, min, Contains, if◌then◌else◌, list_any, and_parts, or_parts, In as Stands, in_filter}
use Words.{in_from, in_to, Uid, Binding, is_on, At, Known, bound_by, other_binding, same_binding, with_inc, Coord, Grant, Root}
use Words.{Said, counts, granted_with, is_called, kept_of, said_in, survives, binding_eq, binding_less, binding_number, uid_number}
use Words.{is_spent, is_binding}
use Words.calls as call
use Words.coord
use Rattle.arj_law_disk_view.proofs.Terms
use Terms.{Runs, end_of, Names, Office, Kept, acted, Idle, In, has, put2, falls_to, never, never_some, or_cases, or_left, or_right}
use Terms.{put2_rises, put2_same, some_is, test_is, test_same, Kinds, IsFixed, HasLeast, SeesGrants, AfterAnswer, HasCallList, HasKeptList}
use Terms.{HasList, HasNarrowed, HasRetained, IsWithin, IsLasting, IsNamedNow, KeepsCalls, LeavesOthers, IsShort, IsTopOf, OnlyKept}
use Terms.{SeesLists, NamesGo}
use Terms.names
use Rattle.arj_law_disk.proofs.machine.Listing.{has_filter}
use Rattle.arj_law_disk.specs.machine.Names.{Act, narrowed}
use Rattle.arj_law_disk_view.proofs.names.GrantSteps.{Taken, came_from, taken_old}
use Rattle.arj_law_disk_view.specs.names.Lists.{CommitsHaveLists, ListsAreHeard}
use Rattle.arj_protocol.specs.Tree as tree
use Rattle.arj_law_disk.specs.machine.Names as machine

-- an item of a list that passes a test
which : {X : Type 0} (f : X → Bool) (xs : List X) → list_any f xs ≡ true → (z : X) × Stands z xs × (f z ≡ true)
which f [] on = absurd (cc on)
which {X} f (z ∷ zs) on =
    ⊎_elim (λ here. (z, inl refl, here)) (λ more. let k = which f zs more in (k.0, inr k.1, k.2)) (or_cases (f z) (list_any f zs) on)

-- two short bindings that compare alike are of one incarnation
same_inc : (b c : Binding) → IsShort b → IsShort c → binding_eq b c ≡ true → b.inc ≡ c.inc
same_inc b c short also e = by (test_is (binding_number b) (binding_number c) e)
  where
    by : b.inc * 4294967296 + b.count ≡ c.inc * 4294967296 + c.count → b.inc ≡ c.inc
    by h = grind arith

-- what is kept as it was
pub kept_still : (k : Kept) (o : Option Kept) → o ≡ Some k → HasNarrowed k o
kept_still k o is = record { kept = k; there = is; within = λ same s on. on }

-- ---- a list is kept for several actions

abbrev keeps : ℕ → ℕ → List ℕ → List ℕ → List Act
keeps t g l hs = map {A = ℕ} {B = Act} (λ h. machine.KeepList h t g l) hs

module _ (t g : ℕ) (l : List ℕ) where
  keep_runs : (hs : List ℕ) (A : Office) → In (machine.Bound t g false l) A.names.answers → A.world.disk.stage t ≡ Idle →
      ((h : ℕ) → has h hs ≡ true → (A.world.disk.root h ≡ A.world.disk.root t) × (A.names.had h g ≡ true)) → Runs A (keeps t g l hs)
  keep_runs [] A answered idle all = tt
  keep_runs (h ∷ hs) A answered idle all = (
    record {
      hears = record { answered = answered; idle = idle };
      family = (all h (or_left (h == h) (has h hs) (test_same h))).0;
      had = (all h (or_left (h == h) (has h hs) (test_same h))).1;
    },
    keep_runs hs (acted A (machine.KeepList h t g l)) answered idle (λ z on. all z (or_right (h == z) (has z hs) on)),
  )

  -- what is kept where the list was: of that incarnation, within the list and within what was kept of it
  record IsKeptOf (old new : Option Kept) : Type 0 where
    kept : Kept
    there : new ≡ Some kept
    since : kept.since ≡ g
    within : IsWithin kept.list l
    narrows : (k : Kept) → old ≡ Some k → k.since ≡ g → IsWithin kept.list k.list

  kept_first : (o : Option Kept) → IsKeptOf o (Some (record { since = g; list = narrowed g l o }))
  kept_first None =
      record { kept = record { since = g; list = l }; there = refl; since = refl; within = λ s on. on; narrows = λ k is. absurd (cc is) }
  kept_first (Some v) = record {
    kept = record { since = g; list = narrowed g l (Some v) };
    there = refl;
    since = refl;
    within = λ s on. by (v.since == g) s on;
    narrows = λ k is same s on. subst (λ (z : Kept). has s z.list ≡ true) (some_is refl is)
        (of_it (v.since == g) (ap (λ (z : Kept). z.since == g) (some_is refl is) ∙ (ap (λ n. n == g) same ∙ test_same g)) s on);
  }
    where
      by : (b : Bool) (s : ℕ) → has s (if b then filter (λ z. has z v.list) l else l) ≡ true → has s l ≡ true
      by true s on = (has_filter (λ z. has z v.list) s l on).0
      by false s on = on

      of_it : (b : Bool) → b ≡ true → (s : ℕ) → has s (if b then filter (λ z. has z v.list) l else l) ≡ true → has s v.list ≡ true
      of_it true is s on = (has_filter (λ z. has z v.list) s l on).1
      of_it false is s on = absurd (cc is)

  kept_again : (o : Option Kept) (n : Option Kept) → IsKeptOf (Some (record { since = g; list = narrowed g l o })) n → IsKeptOf o n
  kept_again o n k = record {
    kept = k.kept;
    there = k.there;
    since = k.since;
    within = k.within;
    narrows = λ v is same s on. let f = kept_first o in f.narrows v is same s (subst (λ (z : Kept). has s z.list ≡ true)
        (some_is refl f.there) (k.narrows (record { since = g; list = narrowed g l o }) refl refl s on));
  }

  keep_kept : (hs : List ℕ) (A : Office) (z : ℕ) → (has z hs ≡ false → (let B = end_of A (keeps t g l hs) in let N = B.names in N.kept z)
      ≡ A.names.kept z) × (has z hs ≡ true → IsKeptOf (A.names.kept z) (let B = end_of A (keeps t g l hs) in let N = B.names in N.kept z))
  keep_kept [] A z = ((λ off. refl), λ on. absurd (cc on))
  keep_kept (h ∷ hs) A z = by (z == h) refl (keep_kept hs (acted A (machine.KeepList h t g l)) z)
    where
      flip : (a b : ℕ) → (a == b) ≡ true → (b == a) ≡ true
      flip a b e = ap (λ w. w == a) (sym (test_is a b e)) ∙ test_same a

      by : (b : Bool) → (z == h) ≡ b → (has z hs ≡ false → (let B = end_of (acted A (machine.KeepList h t g l)) (keeps t g l hs) in
          let N = B.names in N.kept z) ≡ (acted A (machine.KeepList h t g l)).names.kept z)
          × (has z hs ≡ true → IsKeptOf ((acted A (machine.KeepList h t g l)).names.kept z)
          (let B = end_of (acted A (machine.KeepList h t g l)) (keeps t g l hs) in let N = B.names in N.kept z))
          → (((h == z) || has z hs) ≡ false → (let B = end_of (acted A (machine.KeepList h t g l)) (keeps t g l hs) in let N = B.names in
          N.kept z) ≡ A.names.kept z) × (((h == z) || has z hs) ≡ true → IsKeptOf (A.names.kept z)
          (let B = end_of (acted A (machine.KeepList h t g l)) (keeps t g l hs) in let N = B.names in N.kept z))
      by true e rest = (
        (λ off. absurd (never (or_left (h == z) (has z hs) (flip z h e)) off)),
        λ on. kept_again (A.names.kept z) (let B = end_of (acted A (machine.KeepList h t g l)) (keeps t g l hs) in let N = B.names in
            N.kept z) (here (has z hs) refl),
      )
        where
          now : (acted A (machine.KeepList h t g l)).names.kept z ≡ Some (record { since = g; list = narrowed g l (A.names.kept z) })
          now = ap (λ b. if b then Some (record { since = g; list = narrowed g l (A.names.kept h) }) else A.names.kept z) e
              ∙ ap (λ n. Some (record { since = g; list = narrowed g l (A.names.kept n) })) (sym (test_is z h e))

          here : (b : Bool) → has z hs ≡ b → IsKeptOf (Some (record { since = g; list = narrowed g l (A.names.kept z) }))
              (let B = end_of (acted A (machine.KeepList h t g l)) (keeps t g l hs) in let N = B.names in N.kept z)
          here true on = subst (λ o. IsKeptOf o (let B = end_of (acted A (machine.KeepList h t g l)) (keeps t g l hs) in let N = B.names in
              N.kept z)) now (rest.1 on)
          here false off =
              subst (IsKeptOf (Some (record { since = g; list = narrowed g l (A.names.kept z) }))) (sym (rest.0 off ∙ now)) (record {
                kept = record { since = g; list = narrowed g l (A.names.kept z) };
                there = refl;
                since = refl;
                within = (let f = kept_first (A.names.kept z) in
                    λ s on. f.within s (subst (λ (w : Kept). has s w.list ≡ true) (some_is refl f.there) on));
                narrows = λ k is same s on. subst (λ (w : Kept). has s w.list ≡ true) (some_is refl is) on;
              })
      by false e rest = (
        (λ off. rest.0 (or_parts (h == z) (has z hs) off).1 ∙ other),
        λ on. subst (λ o. IsKeptOf o (let B = end_of (acted A (machine.KeepList h t g l)) (keeps t g l hs) in let N = B.names in N.kept z))
            other (rest.1 (⊎_elim (λ same. absurd (never (flip h z same) e)) (λ more. more) (or_cases (h == z) (has z hs) on))),
      )
        where
          other : (acted A (machine.KeepList h t g l)).names.kept z ≡ A.names.kept z
          other = ap (λ b. if b then Some (record { since = g; list = narrowed g l (A.names.kept h) }) else A.names.kept z) e

  keep_names : (hs : List ℕ) (A : Office) → (let B = end_of A (keeps t g l hs) in B.names)
      ≡ record A.names { kept = (let B = end_of A (keeps t g l hs) in let N = B.names in N.kept) }
  keep_names [] A = refl
  keep_names (h ∷ hs) A = keep_names hs (acted A (machine.KeepList h t g l))

  keep_world : (hs : List ℕ) (A : Office) → (let B = end_of A (keeps t g l hs) in B.world) ≡ A.world
  keep_world [] A = refl
  keep_world (h ∷ hs) A = keep_world hs (acted A (machine.KeepList h t g l))

-- ---- what an answer makes of what is kept

-- it stays as it was, where the root isn't free of another binding; or it is the answer's, of a binding that is new, the same, or
-- replaces one of which the root is free
pub data Becomes (known : Known) (free : Bool) (old new : Option Known) : Type 0 where
  stays : (k : Known) → old ≡ Some k → new ≡ Some k → binding_eq k.binding known.binding ≡ false → Becomes known free old new
  first : (k : Known) → old ≡ None → new ≡ Some k → k.binding ≡ known.binding → k.stores ≡ known.stores → Becomes known free old new
  again : (k l : Known) → old ≡ Some k → new ≡ Some l → binding_eq k.binding known.binding ≡ true → l.binding ≡ k.binding →
      l.stores ≡ known.stores → Becomes known free old new
  other : (k l : Known) → old ≡ Some k → new ≡ Some l → free ≡ true → l.binding ≡ known.binding → l.stores ≡ known.stores →
      Becomes known free old new

becomes : (known : Known) (at : At) (free : Bool) (old : Option Known) →
    Becomes known free old (let m = bound_by free known at old in m.kept)
becomes known at free None = first known refl refl refl refl
becomes known at free (Some k) = by (binding_eq k.binding known.binding) refl
  where
    alike : binding_eq k.binding known.binding ≡ true → (o : Option ℕ) →
        Becomes known free (Some k) (let m = same_binding k known at o in m.kept)
    alike e None = again k (call.named_again k known) refl refl e refl refl
    alike e (Some i) = incs (let z = call.named_again k known in z.inc)
      where
        incs : (p : Option ℕ) → Becomes known free (Some k) (let m = with_inc i (call.named_again k known) at p in m.kept)
        incs None = again k (record (call.named_again k known) { inc = Some i }) refl refl e refl refl
        incs (Some j) = tests (j == i)
          where
            tests : (b : Bool) →
                Becomes known free (Some k) (let m = (if b then call.moves (Some (call.named_again k known)) at else call.finds (Some
                (call.named_again k known)) (call.Changed (let z = call.named_again k known in z.server) (call.two_incs j i))) in m.kept)
            tests true = again k (call.named_again k known) refl refl e refl refl
            tests false = again k (call.named_again k known) refl refl e refl refl

    unlike : binding_eq k.binding known.binding ≡ false → (f less : Bool) → free ≡ f → Becomes known free (Some k) (let m = (if f && less
        then call.moves (Some known) at else call.finds (Some k) (call.Changed 1 (call.two_bindings k.binding known.binding))) in m.kept)
    unlike e true true is = other k known refl refl is refl refl
    unlike e true false is = stays k refl refl e
    unlike e false less is = stays k refl refl e

    by : (b : Bool) → binding_eq k.binding known.binding ≡ b →
        Becomes known free (Some k) (let m = (if b then same_binding k known at known.inc else other_binding free k known at) in m.kept)
    by true e = alike e known.inc
    by false e = unlike e free (binding_less k.binding known.binding) refl

-- ---- an answer is taken

module _ (x g : ℕ) (tops : Kinds) (root t : Uid) (c : Coord) (r q : Root) (known : Known) (at : At) (free : Bool) (A : Office)
    (named : names.Named A) (fixed : IsFixed tops A.world.disk) (grants : SeesGrants x root c r A.world.disk A.names)
    (s : SeesLists x tops root c r A.names) (lasting : IsLasting x c r) (top : IsTopOf tops root t)
    (own_root : tops.root (uid_number root) ≡ uid_number root) (idle : A.world.disk.stage (uid_number t) ≡ Idle)
    (answered : In (machine.Bound (uid_number t) g false known.stores) A.names.answers)
    (now : IsNamedNow x c r g known free) (after : AfterAnswer x g t known at free r q) where
  abbrev new : Grant
  new = record { top = t; x = x; least = g; named = Some known.binding }

  -- the grant is taken
  abbrev B : Office
  B = acted A (machine.Hear (uid_number t) g false known.stores)

  abbrev had : ℕ → ℕ → Bool
  had = put2 (uid_number t) g true A.names.had

  rises : (z i : ℕ) → A.names.had z i ≡ true → put2 (uid_number t) g true A.names.had z i ≡ true
  rises z i h = put2_rises (uid_number t) g A.names.had z i h

  kept_had : (z : ℕ) (l : Kept) → A.names.kept z ≡ Some l → A.names.had z l.since ≡ true
  kept_had z l is = named.lists.had z l is

  in_grants : (P : Grant → Type 0) → ((h : Grant) → Contains r.grants h → P h) → P new → ((h : Grant) → Contains r.grants h → h.top ≡ t →
      h.x ≡ x → P (record h { least = min h.least g; named = Some known.binding })) → (h : Grant) → Contains q.grants h → P h
  in_grants P old fresh both h i = came_from P new r.grants (λ z j. old z (in_to z r.grants j)) fresh
      (λ z j e f. both z (in_to z r.grants j) e f) h (in_from h (granted_with new r.grants) (subst (λ gs. Contains gs h) after.grants i))

  family : (h : Grant) → Contains q.grants h → IsTopOf tops root h.top
  family = in_grants (λ h. IsTopOf tops root h.top) s.family top (λ h i e f. s.family h i)

  granted : (M : ℕ → ℕ → Bool) → ((z i : ℕ) → put2 (uid_number t) g true A.names.had z i ≡ true → M z i ≡ true) →
      (h : Grant) (b : Binding) → Contains q.grants h → h.x ≡ x → h.named ≡ Some b → (M (uid_number h.top) b.inc ≡ true) × IsShort b
  granted M more h b i = in_grants (λ z. z.x ≡ x → z.named ≡ Some b → (M (uid_number z.top) b.inc ≡ true) × IsShort b)
      (λ z j e f. let k = s.granted z b j e f in (more (uid_number z.top) b.inc (rises (uid_number z.top) b.inc k.0), k.1))
      (λ e f. of_new t refl f)
      (λ z j e f e2 f2. of_new z.top e f2) h i
    where
      of_new : (w : Uid) → w ≡ t → Some known.binding ≡ Some b → (M (uid_number w) b.inc ≡ true) × IsShort b
      of_new w same f = let one : known.binding ≡ b = some_is refl f in (
        more (uid_number w) b.inc (ap (λ z. had (uid_number z) b.inc) same
            ∙ ap (had (uid_number t)) (sym (ap (λ (z : Binding). z.inc) one) ∙ now.inc) ∙ put2_same (uid_number t) g A.names.had),
        subst IsShort one now.short,
      )

  said_back : (z : Said) → Contains q.said z → Contains r.said z
  said_back z i = subst (λ ss. Contains ss z) after.said i

  -- ---- what is kept stays

  module _ (k : Known) (was : kept_of x r ≡ Some k) (is : kept_of x q ≡ Some k) (apart : binding_eq k.binding known.binding ≡ false) where
    one : (l : Known) → kept_of x q ≡ Some l → k ≡ l
    one l e = some_is is e

    old_list : (l : Known) → kept_of x q ≡ Some l → kept_of x r ≡ Some l
    old_list l e = was ∙ ap Some (one l e)

    kept_named : (l : Known) (h : Grant) → kept_of x q ≡ Some l → Contains q.grants h → h.x ≡ x → is_binding l.binding h.named ≡ true →
        HasList A.names (uid_number h.top) l
    kept_named l h e i = in_grants (λ z. z.x ≡ x → is_binding l.binding z.named ≡ true → HasList A.names (uid_number z.top) l)
        (λ z j f on. s.named l z (old_list l e) j f on) (λ f on. clash on) (λ z j f f2 f3 on. clash on) h i
      where
        clash : {P : Type 0} → binding_eq l.binding known.binding ≡ true → P
        clash on = absurd (never (ap (λ (z : Known). binding_eq z.binding known.binding) (one l e) ∙ on) apart)

    list_on : (l : Known) (z : ℕ) → HasList A.names z l → HasList (record A.names { had = put2 (uid_number t) g true A.names.had }) z l
    list_on l z h = record { kept = h.kept; there = h.there; since = h.since; within = h.within }

    retained_on : (l : Known) → HasRetained A.names (uid_number root) l →
        HasRetained (record A.names { had = put2 (uid_number t) g true A.names.had }) (uid_number root) l
    retained_on l h = record { had = rises (uid_number root) (let b = l.binding in b.inc) h.had; kept = h.kept; there = h.there }

    stayed : SeesLists x tops root c q (record A.names { had = put2 (uid_number t) g true A.names.had })
    stayed = record {
      agree = λ l h v e of. s.agree l h v (old_list l e) of;
      family = family;
      granted = granted (put2 (uid_number t) g true A.names.had) (λ z i h. h);
      named = λ l h e i f on. list_on l (uid_number h.top) (kept_named l h e i f on);
      short = λ l e. s.short l (old_list l e);
      called = λ l z w e i f off on of. ⊎_elim (λ h. inl (list_on l (uid_number w) h)) (λ h. inr (retained_on l h))
          (s.called l z w (old_list l e) (said_back z i) f off on of);
      retained = λ l z e i f on. retained_on l (s.retained l z (old_list l e) (said_back z i) f on);
      nothing = λ e. absurd (never_some is e);
    }

  -- ---- the answer's list is kept

  abbrev candidates : List ℕ
  candidates = uid_number root ∷ map {A = Grant} {B = ℕ} (λ h. uid_number h.top) q.grants

  abbrev chosen : List ℕ
  chosen = filter (λ z. put2 (uid_number t) g true A.names.had z g) candidates

  abbrev M : Names
  M = let E = end_of (acted A (machine.Hear (uid_number t) g false known.stores)) (keeps (uid_number t) g known.stores (filter (λ z.
      put2 (uid_number t) g true A.names.had z g) (uid_number root ∷ map {A = Grant} {B = ℕ} (λ h. uid_number h.top) q.grants))) in E.names

  kept_out : (z : ℕ) → has z chosen ≡ false → M.kept z ≡ A.names.kept z
  kept_out z = (keep_kept (uid_number t) g known.stores chosen B z).0

  kept_in : (z : ℕ) → has z chosen ≡ true → IsKeptOf (uid_number t) g known.stores (A.names.kept z) (M.kept z)
  kept_in z = (keep_kept (uid_number t) g known.stores chosen B z).1

  had_is : (z i : ℕ) → put2 (uid_number t) g true A.names.had z i ≡ true → M.had z i ≡ true
  had_is z i h = ap (λ (N : Names). N.had z i) (keep_names (uid_number t) g known.stores chosen B) ∙ h

  has_filtered : (f : ℕ → Bool) (z : ℕ) (zs : List ℕ) → has z zs ≡ true → f z ≡ true → has z (filter f zs) ≡ true
  has_filtered f z [] on h = absurd (cc on)
  has_filtered f z (w ∷ ws) on h = by (f w) refl (or_cases (w == z) (has z ws) on) (λ more. has_filtered f z ws more h)
    where
      by : (b : Bool) → f w ≡ b → ((w == z) ≡ true) ⊎ (has z ws ≡ true) → (has z ws ≡ true → has z (filter f ws) ≡ true) →
          has z (cond b (w ∷ filter f ws) (filter f ws)) ≡ true
      by true e (inl same) ih = or_left (w == z) (has z (filter f ws)) same
      by true e (inr more) ih = or_right (w == z) (has z (filter f ws)) (ih more)
      by false e (inl same) ih = absurd (never (ap f (test_is w z same) ∙ h) e)
      by false e (inr more) ih = ih more

  from_filtered : (f : ℕ → Bool) (z : ℕ) (zs : List ℕ) → has z (filter f zs) ≡ true → (has z zs ≡ true) × (f z ≡ true)
  from_filtered f z [] on = absurd (cc on)
  from_filtered f z (w ∷ ws) on = by (f w) refl on (from_filtered f z ws)
    where
      by : (b : Bool) → f w ≡ b → has z (cond b (w ∷ filter f ws) (filter f ws)) ≡ true →
          (has z (filter f ws) ≡ true → (has z ws ≡ true) × (f z ≡ true)) → (has z (w ∷ ws) ≡ true) × (f z ≡ true)
      by true e h ih = ⊎_elim (λ same. (or_left (w == z) (has z ws) same, ap f (sym (test_is w z same)) ∙ e)) (λ more. let p = ih more in
          (or_right (w == z) (has z ws) p.0, p.1)) (or_cases (w == z) (has z (filter f ws)) h)
      by false e h ih = let p = ih h in (or_right (w == z) (has z ws) p.0, p.1)

  top_listed : (h : Grant) (hs : List Grant) → Stands h hs →
      has (uid_number h.top) (map {A = Grant} {B = ℕ} (λ z. uid_number z.top) hs) ≡ true
  top_listed h [] i = absurd i
  top_listed h (k ∷ ks) (inl is) = or_left (uid_number k.top == uid_number h.top) (has (uid_number h.top) (map {A = Grant} {B = ℕ}
      (λ z. uid_number z.top) ks)) (ap (λ (z : Grant). uid_number z.top == uid_number h.top) is ∙ test_same (uid_number h.top))
  top_listed h (k ∷ ks) (inr more) = or_right (uid_number k.top == uid_number h.top)
      (has (uid_number h.top) (map {A = Grant} {B = ℕ} (λ z. uid_number z.top) ks)) (top_listed h ks more)

  listed_top : (z : ℕ) (hs : List Grant) → has z (map {A = Grant} {B = ℕ} (λ h. uid_number h.top) hs) ≡ true →
      (h : Grant) × Stands h hs × (uid_number h.top ≡ z)
  listed_top z [] on = absurd (cc on)
  listed_top z (k ∷ ks) on = ⊎_elim (λ same. (k, inl refl, test_is (uid_number k.top) z same)) (λ more. let f = listed_top z ks more in
      (f.0, inr f.1, f.2)) (or_cases (uid_number k.top == z) (has z (map {A = Grant} {B = ℕ} (λ h. uid_number h.top) ks)) on)

  -- whoever is chosen is of the root, and has a grant of the answer's incarnation
  chosen_may : (z : ℕ) → has z chosen ≡ true → (B.world.disk.root z ≡ B.world.disk.root (uid_number t)) × (B.names.had z g ≡ true)
  chosen_may z on =
      let f = from_filtered (λ w. put2 (uid_number t) g true A.names.had w g) z candidates on in (
        ap (λ h. h z) fixed.root ∙ ⊎_elim (λ same. ap tops.root (sym (test_is (uid_number root) z same)) ∙ own_root)
            (λ more. let k = listed_top z q.grants more in ap tops.root (sym k.2) ∙ (let o = family k.0 (in_to k.0 q.grants k.1) in
            o.of_root)) (or_cases (uid_number root == z) (has z (map {A = Grant} {B = ℕ} (λ h. uid_number h.top) q.grants)) f.0)
            ∙ sym top.of_root ∙ sym (ap (λ h. h (uid_number t)) fixed.root),
        f.1,
      )

  -- each of the root that has a grant of the answer's incarnation is chosen
  root_chosen : put2 (uid_number t) g true A.names.had (uid_number root) g ≡ true → has (uid_number root) chosen ≡ true
  root_chosen h = has_filtered (λ w. put2 (uid_number t) g true A.names.had w g) (uid_number root) candidates (or_left (uid_number root ==
      uid_number root) (has (uid_number root) (map {A = Grant} {B = ℕ} (λ z. uid_number z.top) q.grants)) (test_same (uid_number root))) h

  grant_chosen : (h : Grant) → Contains q.grants h → put2 (uid_number t) g true A.names.had (uid_number h.top) g ≡ true →
      has (uid_number h.top) chosen ≡ true
  grant_chosen h i had_it = has_filtered (λ w. put2 (uid_number t) g true A.names.had w g) (uid_number h.top) candidates
      (or_right (uid_number root == uid_number h.top) (has (uid_number h.top) (map {A = Grant} {B = ℕ} (λ z. uid_number z.top) q.grants))
      (top_listed h q.grants (in_from h q.grants i))) had_it

  top_chosen : (w : Uid) → IsTopOf tops root w → A.names.had (uid_number w) g ≡ true → has (uid_number w) chosen ≡ true
  top_chosen w of h =
      let l : HasLeast x w g r.grants = grants.own w g (ap (λ f. f (uid_number w)) fixed.root ∙ of.of_root)
      (ap (λ f. f (uid_number w)) fixed.serial ∙ of.plain) h in
      let k : Taken l.grant (granted_with new r.grants) = taken_old new l.grant r.grants (in_from l.grant r.grants l.there) in
      subst (λ z. has (uid_number z) chosen ≡ true) (k.top_is ∙ l.top_is)
      (grant_chosen k.grant (subst (λ gs. Contains gs k.grant) (sym after.grants) (in_to k.grant (granted_with new r.grants) k.there))
      (ap (λ z. had (uid_number z) g) (k.top_is ∙ l.top_is) ∙ rises (uid_number w) g h))

  chosen_list : (l : Known) → (let b = l.binding in b.inc) ≡ g → l.stores ≡ known.stores → (z : ℕ) → has z chosen ≡ true → HasList M z l
  chosen_list l inc stores z on = let k = kept_in z on in
      record { kept = k.kept; there = k.there; since = inc ∙ sym k.since; within = λ n h. ap (has n) stores ∙ k.within n h }

  -- what is kept from now on is the answer's
  module _ (l : Known) (is : kept_of x q ≡ Some l) (inc : (let b = l.binding in b.inc) ≡ g) (short : IsShort l.binding)
      (stores : l.stores ≡ known.stores)
      (calls : (z : Said) (w : Uid) → Contains r.said z → z.x ≡ x → is_spent z.path c.tree ≡ false → is_on z.path w ≡ true →
      IsTopOf tops root w → HasList M (uid_number w) l ⊎ HasRetained M (uid_number root) l)
      (stayers : (z : Said) → Contains r.said z → z.x ≡ x → coord.is_retained z.path c ≡ true → HasRetained M (uid_number root) l) where
    one_now : (k : Known) → kept_of x q ≡ Some k → l ≡ k
    one_now k e = some_is is e

    agrees : (h : Uid) (v : Kept) → (h ≡ root) ⊎ IsTopOf tops root h → M.kept (uid_number h) ≡ Some v →
        v.since ≡ (let b = l.binding in b.inc) → IsWithin v.list l.stores
    agrees h v of e since = by (has (uid_number h) chosen) refl
      where
        by : (b : Bool) → has (uid_number h) chosen ≡ b → IsWithin v.list l.stores
        by true on = let k = kept_in (uid_number h) on in
            λ n there. ap (has n) stores ∙ k.within n (subst (λ (z : Kept). has n z.list ≡ true) (sym (some_is k.there e)) there)
        by false off =
            let old : A.names.kept (uid_number h) ≡ Some v = sym (kept_out (uid_number h) off) ∙ e in
            let had_it : A.names.had (uid_number h) g ≡ true = ap (A.names.had (uid_number h)) (sym (since ∙ inc))
            ∙ kept_had (uid_number h) v old in
            absurd (never (⊎_elim (λ same. ap (λ z. has (uid_number z) chosen) same ∙ root_chosen (rises (uid_number root) g
            (ap (λ z. A.names.had (uid_number z) g) (sym same) ∙ had_it))) (λ o. top_chosen h o had_it) of) off)

    names_list : (h : Grant) → Contains q.grants h → h.x ≡ x → is_binding l.binding h.named ≡ true → HasList M (uid_number h.top) l
    names_list h i e on = by h.named refl on
      where
        by : (o : Option Binding) → h.named ≡ o → is_binding l.binding o ≡ true → HasList M (uid_number h.top) l
        by None f on = absurd (cc on)
        by (Some b) f on =
            let k = granted (put2 (uid_number t) g true A.names.had) (λ z j y. y) h b i e f in
            chosen_list l inc stores (uid_number h.top)
            (grant_chosen h i (ap (had (uid_number h.top)) (sym inc ∙ same_inc l.binding b short k.1 on) ∙ k.0))

    kept_now : SeesLists x tops root c q M
    kept_now = record {
      agree = λ k h v e of f since n on. subst (λ (z : Known). has n z.stores ≡ true) (one_now k e)
          (agrees h v of f (since ∙ ap (λ (z : Known). (let b = z.binding in b.inc)) (sym (one_now k e))) n on);
      family = family;
      granted = granted M.had had_is;
      named = λ k h e i f on. subst (HasList M (uid_number h.top)) (one_now k e)
          (names_list h i f (ap (λ (z : Known). is_binding z.binding h.named) (one_now k e) ∙ on));
      short = λ k e. subst (λ (z : Known). IsShort z.binding) (one_now k e) short;
      called = λ k z w e i f off on of.
          subst (λ y. HasList M (uid_number w) y ⊎ HasRetained M (uid_number root) y) (one_now k e) (calls z w (said_back z i) f off on of);
      retained = λ k z e i f on. subst (HasRetained M (uid_number root)) (one_now k e) (stayers z (said_back z i) f on);
      nothing = λ e. absurd (never_some is e);
    }

  keeping : SeesLists x tops root c q M → (free ≡ false → KeepsCalls tops root (kept_of x r) (kept_of x q) A.names M) →
      NamesGo A (λ C. OnlyKept A C × SeesLists x tops root c q C.names × (C.names.had ≡ put2 (uid_number t) g true A.names.had)
      × LeavesOthers tops root A C × (free ≡ false → KeepsCalls tops root (kept_of x r) (kept_of x q) A.names C.names))
  keeping seen calls = record {
    acts = machine.Hear (uid_number t) g false known.stores ∷ keeps (uid_number t) g known.stores chosen;
    may = (record { answered = answered; idle = idle }, keep_runs (uid_number t) g known.stores chosen B answered idle chosen_may);
    there = (
      record {
        names = keep_names (uid_number t) g known.stores chosen B ∙ (λ i. record A.names { had = (λ z j. had_same z j i); kept = M.kept });
        world = keep_world (uid_number t) g known.stores chosen B;
        had = λ z i h. had_is z i (rises z i h);
        narrows = λ h k is. narrow h k is (has h chosen) refl;
      },
      seen,
      ap (λ (N : Names). N.had) (keep_names (uid_number t) g known.stores chosen B),
      λ h o. kept_out h (falls_to (has h chosen) (λ on. o (of_root_chosen h on))),
      calls,
    );
  }
    where
      narrow : (h : ℕ) (k : Kept) → A.names.kept h ≡ Some k → (b : Bool) → has h chosen ≡ b → HasNarrowed k (M.kept h)
      narrow h k is true on = let n = kept_in h on in
          record { kept = n.kept; there = n.there; within = λ same. n.narrows k is (sym same ∙ n.since) }
      narrow h k is false off = kept_still k (M.kept h) (kept_out h off ∙ is)

      of_root_chosen : (h : ℕ) → has h chosen ≡ true → tops.root h ≡ uid_number root
      of_root_chosen h on = ap (λ f. f h) (sym fixed.root) ∙ (chosen_may h on).0 ∙ ap (λ f. f (uid_number t)) fixed.root ∙ top.of_root

      had_same : (z j : ℕ) → put2 (uid_number t) g true A.names.had z j ≡ M.had z j
      had_same z j = sym (ap (λ (N : Names). N.had z j) (keep_names (uid_number t) g known.stores chosen B))

  unspent : {P : Type 0} (z : Said) → is_spent z.path c.tree ≡ true → is_spent z.path c.tree ≡ false → P
  unspent z on off = absurd (never on off)

  -- no call survives that the kept binding answered
  fresh : (l : Known) → kept_of x q ≡ Some l → l.binding ≡ known.binding → l.stores ≡ known.stores →
      ((z : Said) → Contains r.said z → z.x ≡ x → is_spent z.path c.tree ≡ true) → SeesLists x tops root c q M
  fresh l is binding stores spent = kept_now l is (ap (λ (z : Binding). z.inc) binding ∙ now.inc) (subst IsShort (sym binding) now.short)
      stores (λ z w i f off on of. unspent z (spent z i f) off) (λ z i f on. unspent z (spent z i f) (lasting.retained z i f on))

  -- the binding is answered again
  module _ (k l : Known) (was : kept_of x r ≡ Some k) (alike : binding_eq k.binding known.binding ≡ true) (binding : l.binding ≡ k.binding)
      (stores : l.stores ≡ known.stores) where
    old_inc : (let b = k.binding in b.inc) ≡ g
    old_inc = same_inc k.binding known.binding (s.short k was) now.short alike ∙ now.inc

    inc : (let b = l.binding in b.inc) ≡ g
    inc = ap (λ (z : Binding). z.inc) binding ∙ old_inc

    list_now : (w : Uid) → IsTopOf tops root w → HasList A.names (uid_number w) k → HasList M (uid_number w) l
    list_now w of h = chosen_list l inc stores (uid_number w)
        (top_chosen w of (ap (A.names.had (uid_number w)) (sym old_inc ∙ h.since) ∙ kept_had (uid_number w) h.kept h.there))

    retained_now : HasRetained A.names (uid_number root) k → HasRetained M (uid_number root) l
    retained_now h = by (has (uid_number root) chosen) refl
      where
        had_now : M.had (uid_number root) (let b = l.binding in b.inc) ≡ true
        had_now = ap (M.had (uid_number root)) (inc ∙ sym old_inc)
            ∙ had_is (uid_number root) (let b = k.binding in b.inc) (rises (uid_number root) (let b = k.binding in b.inc) h.had)

        by : (b : Bool) → has (uid_number root) chosen ≡ b → HasRetained M (uid_number root) l
        by true on = (let k = kept_in (uid_number root) on in record { had = had_now; kept = k.kept; there = k.there })
        by false off = record { had = had_now; kept = h.kept; there = kept_out (uid_number root) off ∙ h.there }

    calls_again : (w : Uid) → IsTopOf tops root w → HasCallList A.names (uid_number root) (uid_number w) k →
        HasCallList M (uid_number root) (uid_number w) l
    calls_again w of h = ⊎_elim (λ h. inl (list_now w of h)) (λ h. inr (retained_now h)) h

    repeated_by : kept_of x q ≡ Some l → SeesLists x tops root c q M
    repeated_by is = kept_now l is inc (subst IsShort (sym binding) (s.short k was)) stores
        (λ z w i f off on of. calls_again w of (s.called k z w was i f off on of)) (λ z i f on. retained_now (s.retained k z was i f on))

  repeated : (k l : Known) → kept_of x r ≡ Some k → kept_of x q ≡ Some l → binding_eq k.binding known.binding ≡ true →
      l.binding ≡ k.binding → l.stores ≡ known.stores → SeesLists x tops root c q M
  repeated k l was is alike binding stores = repeated_by k l was alike binding stores is

  -- with the grant alone calls have their lists still
  calls_on : (k : Known) (w : Uid) → HasCallList A.names (uid_number root) (uid_number w) k →
      HasCallList (record A.names { had = put2 (uid_number t) g true A.names.had }) (uid_number root) (uid_number w) k
  calls_on k w h =
      ⊎_elim (λ (h : HasList A.names (uid_number w) k). inl (record { kept = h.kept; there = h.there; since = h.since; within = h.within }))
      (λ (h : HasRetained A.names (uid_number root) k).
      inr (record { had = rises (uid_number root) (let b = k.binding in b.inc) h.had; kept = h.kept; there = h.there })) h

  pub lists_heard : NamesGo A (λ C. OnlyKept A C × SeesLists x tops root c q C.names × (C.names.had ≡ put2 (uid_number t) g true
      A.names.had) × LeavesOthers tops root A C × (free ≡ false → KeepsCalls tops root (kept_of x r) (kept_of x q) A.names C.names))
  lists_heard = by (kept_of x r) refl (becomes known at free (kept_of x r))
    where
      by : (o : Option Known) → kept_of x r ≡ o → Becomes known free o (let m = bound_by free known at (kept_of x r) in m.kept) →
          NamesGo A (λ C. OnlyKept A C × SeesLists x tops root c q C.names × (C.names.had ≡ put2 (uid_number t) g true A.names.had)
          × LeavesOthers tops root A C × (free ≡ false → KeepsCalls tops root (kept_of x r) (kept_of x q) A.names C.names))
      by o e (stays k was is apart) = record {
        acts = machine.Hear (uid_number t) g false known.stores ∷ [];
        may = (record { answered = answered; idle = idle }, tt);
        there = (
          record { names = refl; world = refl; had = rises; narrows = λ h k is. kept_still k (A.names.kept h) is },
          stayed k (e ∙ was) (after.kept ∙ is) apart,
          refl,
          λ h o. refl,
          λ off w y of at h.
              (k, after.kept ∙ is, calls_on k w (subst (HasCallList A.names (uid_number root) (uid_number w)) (some_is at (e ∙ was)) h)),
        );
      }
      by o e (first l was is binding stores) =
          keeping (fresh l (after.kept ∙ is) binding stores (s.nothing (e ∙ was))) (λ off w k of at. absurd (never_some at (e ∙ was)))
      by o e (again k l was is alike binding stores) =
          keeping (repeated k l (e ∙ was) (after.kept ∙ is) alike binding stores) (λ off w y of at h. (
            l,
            after.kept ∙ is,
            calls_again k l (e ∙ was) alike binding stores w of
                (subst (HasCallList A.names (uid_number root) (uid_number w)) (some_is at (e ∙ was)) h),
          ))
      by o e (other k l was is freed binding stores) =
          keeping (fresh l (after.kept ∙ is) binding stores (now.spent freed)) (λ off. absurd (never freed off))

pub lists_are_heard : ListsAreHeard
lists_are_heard x g tops root t c r q known at free A named fixed grants s lasting top own_root idle answered now after =
    lists_heard x g tops root t c r q known at free A named fixed grants s lasting top own_root idle answered now after

-- ---- a commit's list

module _ (x : ℕ) (tops : Kinds) (root t : Uid) (c : Coord) (r : Root) (A : Office) (named : names.Named A)
    (fixed : IsFixed tops A.world.disk) (s : SeesLists x tops root c r A.names) (lasting : IsLasting x c r) (top : IsTopOf tops root t)
    (lives : (z : Said) → Contains r.said z → survives t z.path c ≡ true →
    is_spent z.path c.tree ≡ false) (called : is_called x t r c ≡ true) where
  abbrev N : Names
  N = A.names

  -- a call on the object that counts
  counted : (z : Said) × Contains r.said z × (z.x ≡ x) × ((survives t z.path c || coord.is_retained z.path c) ≡ true)
  counted =
      let f = which (λ (z : Said). z.x == x) (said_in t r c) called in
      let k = in_filter (λ (z : Said). counts t z.path c) f.0 r.said f.1 in
      (f.0, in_to f.0 r.said k.0, test_is f.0.x x f.2, k.1)

  not_spent : (z : Said) → Contains r.said z → z.x ≡ x → (survives t z.path c || coord.is_retained z.path c) ≡ true →
      is_spent z.path c.tree ≡ false
  not_spent z i e on =
      ⊎_elim (λ h. lives z i h) (λ h. lasting.retained z i e h) (or_cases (survives t z.path c) (coord.is_retained z.path c) on)

  pub stands : (k : Known) → kept_of x r ≡ Some k → HasList N (uid_number t) k ⊎ HasRetained N (uid_number root) k
  stands k is = let z = counted in ⊎_elim
      (λ h. s.called k z.0 t is z.1 z.2 (lives z.0 z.1 h)
      (and_parts (is_on (let q = z.0 in q.path) t) (tree.is_merged t (let q = z.0 in q.path) c.tree) h).0 top)
      (λ h. inr (s.retained k z.0 is z.1 z.2 h))
      (or_cases (survives t (let q = z.0 in q.path) c) (coord.is_retained (let q = z.0 in q.path) c) z.3)

  root_is : A.world.disk.root (uid_number t) ≡ uid_number root
  root_is = ap (λ f. f (uid_number t)) fixed.root ∙ top.of_root

  pub has_list : HasKeptList x root t r A.world.disk A.names
  has_list = by (kept_of x r) refl
    where
      of : (k : Known) → kept_of x r ≡ Some k → HasList N (uid_number t) k ⊎ HasRetained N (uid_number root) k →
          HasKeptList x root t r A.world.disk A.names
      of k is (inl h) = record {
        known = k;
        kept = is;
        inc = h.kept.since;
        had = inl (named.lists.had (uid_number t) h.kept h.there);
        list = λ present. (uid_number t, inl refl, h.kept, h.there, λ n on. h.within n on);
      }
      of k is (inr h) = record {
        known = k;
        kept = is;
        inc = (let b = k.binding in b.inc);
        had = inr h.had;
        list = λ present.
            let own : h.kept.since ≡ N.inc = present h.kept.since
            (inr (ap (λ z. N.had z h.kept.since) root_is ∙ named.lists.had (uid_number root) h.kept h.there)) in
            let its : (let b = k.binding in b.inc)
            ≡ N.inc = present (let b = k.binding in b.inc) (inr (ap (λ z. N.had z (let b = k.binding in b.inc)) root_is ∙ h.had)) in
            (uid_number root, inr refl, h.kept, h.there, λ n on. s.agree k root h.kept is (inl refl) h.there (own ∙ sym its) n on);
      }

      by : (o : Option Known) → kept_of x r ≡ o → HasKeptList x root t r A.world.disk A.names
      by None e = let z = counted in absurd (never (s.nothing e z.0 z.1 z.2) (not_spent z.0 z.1 z.2 z.3))
      by (Some k) e = of k e (stands k e)

pub commits_have_lists : CommitsHaveLists
commits_have_lists x tops root t c r A named fixed s lasting top lives called =
    has_list x tops root t c r A named fixed s lasting top lives called
