-- Naming is asked to confirm: what it prepares is of a top that isn't over and asks by marks, with grants of this incarnation, and it says
-- Yes only so.
use Rattle.arj_law_parts.proofs.Words
use Words.{◌≡◌, ◌⊎◌, ◌≤◌, ◌<◌, ◌∙◌, ◌++◌, ◌||◌, ℕ, Bool, true, false, length, List, [], ◌∷◌, Some, None, refl, sym, ap, subst, inl, inr}
use Words.{⊎_elim, arith, ⊤, AllByRecursion, list_any, or_cases, length-take-le, uid_is, uid_eq, on_last, Ask, Asked, ConfirmedReply, Head}
use Words.{Message, ObjectState, Path, Uid, asks, is_on, uids_of, Reply, actor, answers, asked_by, response, top_of, top_path, Grants}
use Words.{Marks, confirm, Abort, After, Before, Commit, Disk, Do, Effect, InPart, Look, Prepare, PutInc, PutIntent, RemoveIntent, Say}
use Words.{Send, Served, Stop, Work, is_prepared, stopped, Naming, is_over, Parts, with_naming, at_uid, response_reads_back, Post, Seen}
use Words.list
use Words.ask
use Words.confirmed
use Words.role
use Rattle.arj_law_promise.proofs.Terms.{no_request, all_both, In, up, Up, Walks, asks_part, HasAcked, acked_in, HasPrepared, some_is}
use Rattle.arj_law_parts.proofs.parts.Begun.{path_length}
use Rattle.arj_law_promise.proofs.settling
use settling.{Cores.IsDone, Milds.here_is, Milds.the_node, Steps.Either, Steps.step_walk, Trails.FitsSo, Trails.Went}
use settling.AskedWalks.{drop_prepared, put_prepared, same_prepared}
use settling.ConfirmCases.{AllGranted, ConfirmCase, IsAside, IsCalmBut, IsMute, IsNew, IsTaken, IsTaking, NamingStays, Refuses, Takes}
use settling.ConfirmCases.{confirm_case, reply_mute}
use settling.ConfirmKnown.{AllKnown, IsNaming, its_inc, its_top, naming_here, one_confirm, prepared_itself, prepared_so, sorted_names}
use settling.ConfirmParts.{aside_walk, calm_back, calm_confirms, part_memory, quiet_calm}
use settling.Confirms.{AsksConfirm, AsksMarked, IsConfirming, IsFixed, IsLate, IsNamer, IsNamesNode, IsSameMemory, SaidConfirmed, fixed_on}
use settling.Confirms.{late_on, marked_on, none_not}

-- ---- disks

-- of whoever has an entry prepared this holds; incarnation and records are these
abbrev pub HasEntriesOf : (Uid → Type 0) → Disk → Disk → Type 0
HasEntriesOf Q d c = HasPrepared Q c.names × ((c.inc ≡ d.inc) × (c.intents ≡ d.intents))

-- work on entries and states, by which nobody else has something prepared
abbrev pub WorksFor : (Uid → Type 0) → Work → Type 0
WorksFor Q (Prepare role.Names u states) = Q u
WorksFor Q (Prepare role.Store u states) = ⊤
WorksFor Q Look = ⊤
WorksFor Q (Commit r u) = ⊤
WorksFor Q (Abort r u) = ⊤
WorksFor Q (PutInc i) = ⊥
WorksFor Q (PutIntent u i) = ⊥
WorksFor Q (RemoveIntent u) = ⊥

pub entries_stop : (Q : Uid → Type 0) (how : Stop) (w : Work) (d c : Disk) → WorksFor Q w → HasEntriesOf Q d c →
    HasEntriesOf Q d (stopped how w c)
entries_stop Q Before w d c so h = h
entries_stop Q After Look d c so h = h
entries_stop Q After (PutInc i) d c so h = absurd so
entries_stop Q After (Prepare role.Store u states) d c so h = h
entries_stop Q After (Prepare role.Names u states) d c so h = (put_prepared Q u states c.names so h.0, h.1)
entries_stop Q After (Commit role.Store u) d c so h = h
entries_stop Q After (Commit role.Names u) d c so h =
    (drop_prepared Q u c.names (let z = stopped After (Commit role.Names u) c in z.names) refl h.0, h.1)
entries_stop Q After (Abort role.Store u) d c so h = h
entries_stop Q After (Abort role.Names u) d c so h =
    (drop_prepared Q u c.names (let z = stopped After (Abort role.Names u) c in z.names) refl h.0, h.1)
entries_stop Q After (PutIntent u i) d c so h = absurd so
entries_stop Q After (RemoveIntent u) d c so h = absurd so
entries_stop Q (InPart which) Look d c so h = h
entries_stop Q (InPart which) (PutInc i) d c so h = h
entries_stop Q (InPart which) (Prepare r u states) d c so h = h
entries_stop Q (InPart which) (Commit role.Store u) d c so h = h
entries_stop Q (InPart which) (Commit role.Names u) d c so h =
    (same_prepared Q c.names (let z = stopped (InPart which) (Commit role.Names u) c in z.names) refl h.0, h.1)
entries_stop Q (InPart which) (Abort r u) d c so h = h
entries_stop Q (InPart which) (PutIntent u i) d c so h = h
entries_stop Q (InPart which) (RemoveIntent u) d c so h = h

-- ---- paths

on_any : (f : Uid → Bool) (us : List Uid) (w : Uid) → is_on us w ≡ true → f w ≡ true → list_any f us ≡ true
on_any f [] w on is = absurd (cc on)
on_any f (u ∷ us) w on is = ⊎_elim (λ same. ap (λ b. b || list_any f us) (ap f (uid_is u w same) ∙ is))
    (λ rest. late (f u) (list_any f us) (on_any f us w rest is)) (or_cases (uid_eq u w) (is_on us w) on)
  where
    late : (a b : Bool) → b ≡ true → (a || b) ≡ true
    late true b e = refl
    late false b e = e

-- who was told of a top's end lets it in no more
told_over : (p : Path) (n : Naming) → is_on n.told (top_of p) ≡ true → is_over p n ≡ true
told_over p n on = on_any (λ u. is_on n.told u) (top_path p) (top_of p) (on_last (top_path p) (some (length (top_path p)) p.tops
    (length-take-le p.tops (uids_of p) (inside (length (uids_of p)) p.tops p.len (path_length p) p.within)) p.one_top)) on
  where
    inside : (a b c : ℕ) → a ≡ c → b ≤ c → b ≤ a
    inside a b c e l = omega (arith, e, l)

    some : (a b : ℕ) → a ≡ b → 1 ≤ b → 1 ≤ a
    some a b e l = omega (arith, e, l)

-- ---- the walk

module _ (k : ℕ) (d : Disk) (t : Parts) (M : Seen) (right : IsNaming (up k d t M)) (from : ℕ) (m : Message)
    (there : In (record { from = from; to = k; message = m }) M.sent) (e : ℕ)
    (h : Head) (grants : Grants) (excluded included : Marks) (n : Naming)
    (asking : asks m ≡ Some (h, ask.Confirm grants excluded included)) (named : t.naming ≡ Some n) where
  abbrev Start : Seen
  Start = up k d t M

  abbrev top : Uid
  top = top_of h.path

  abbrev post : Post
  post = record { from = from; to = k; message = m }

  abbrev New : Type 0
  New = IsNew h.path grants excluded included d.names n

  here : Start.nodes k ≡ Some (the_node k d (Some t))
  here = here_is k d (Some t) M

  one : k ≡ 1
  one = naming_here Start right.0 k (the_node k d (Some t)) t n here refl named

  own : actor h.path ≡ top_of h.path
  own = its_top Start right.0 post h grants excluded included there asking

  abbrev its : AsksConfirm M.sent (top_of h.path)
  its = record {
    post = post;
    head = h;
    grants = grants;
    excluded = excluded;
    included = included;
    posted = there;
    to = one;
    asking = asking;
    by = own;
  }

  node : IsNamesNode Start (the_node k d (Some t))
  node = let core = right.1 in core.node (the_node k d (Some t)) (ap Start.nodes (sym one) ∙ here)

  memory : IsNamer Start t n
  memory = let q = node in q.live t n refl named

  inc : n.inc ≡ d.inc
  inc = (let q = memory in q.inc) ∙ its_inc Start right.0 k (the_node k d (Some t)) t here refl

  -- its grants are of this incarnation
  its_fixed : AllGranted grants n.inc → IsFixed d.inc M.sent (top_of h.path)
  its_fixed all = (its, λ g i. low g.1 n.inc d.inc (all g i) inc)
    where
      low : (a b c : ℕ) → a ≡ b → b ≡ c → a ≤ c
      low a b c e f = omega (arith, e, f)

  -- whoever has an entry prepared had it, or is this top
  abbrev Q : Uid → Type 0
  Q y = (is_prepared y d.names ≡ true) ⊎ ((y ≡ top) × New)

  abbrev Sends : Post → Type 0
  Sends p = IsMute p.message ⊎ (p.message ≡ response (asked_by h) (Reply.Confirmed confirmed.Yes))

  abbrev D : Disk → Type 0
  D = HasEntriesOf Q d

  abbrev Fits : Effect → Type 0
  Fits = FitsSo k M (IsCalmBut (λ u. ⊥)) Sends (quiet_calm (λ u. ⊥)) tt D

  fits : (outs : List Effect) → AllByRecursion (IsTaking h.path grants excluded included d.names n) outs → AllByRecursion Fits outs
  fits [] all = tt
  fits (Say b ∷ es) all = (all.0, fits es all.1)
  fits (Send to z ∷ es) all = (inl all.0, fits es all.1)
  fits (Do Look ∷ es) all = ((λ c so how. entries_stop Q how Look d c tt so), fits es all.1)
  fits (Do (PutInc i) ∷ es) all = absurd all.0
  fits (Do (Prepare role.Store u states) ∷ es) all =
      ((λ c so how. entries_stop Q how (Prepare role.Store u states) d c tt so), fits es all.1)
  fits (Do (Prepare role.Names u states) ∷ es) all =
      ((λ c so how. entries_stop Q how (Prepare role.Names u states) d c (inr all.0) so), fits es all.1)
  fits (Do (Commit r u) ∷ es) all = ((λ c so how. entries_stop Q how (Commit r u) d c tt so), fits es all.1)
  fits (Do (Abort r u) ∷ es) all = ((λ c so how. entries_stop Q how (Abort r u) d c tt so), fits es all.1)
  fits (Do (PutIntent u i) ∷ es) all = absurd all.0
  fits (Do (RemoveIntent u) ∷ es) all = absurd all.0

  fits_both : (xs ys : List Effect) → AllByRecursion Fits xs → AllByRecursion Fits ys → AllByRecursion Fits (xs ++ ys)
  fits_both [] ys a b = b
  fits_both (x ∷ xs) ys a b = (a.0, fits_both xs ys a.1 b)

  first : HasPrepared (λ y. (is_prepared y d.names ≡ true) ⊎ ((y ≡ top) × New)) d.names
  first = let q = prepared_itself d.names (sorted_names Start right.0 k (the_node k d (Some t)) here) in
      record { sorted = q.sorted; each = each_left d.names.pend q.each }
    where
      each_left : (es : List (Uid × List ObjectState)) → AllByRecursion (λ (z : Uid × List ObjectState). is_prepared z.0 d.names ≡ true) es
          → AllByRecursion (λ (z : Uid × List ObjectState). (is_prepared z.0 d.names ≡ true) ⊎ ((z.0 ≡ top) × New)) es
      each_left [] all = tt
      each_left (z ∷ es) all = (inl all.0, each_left es all.1)

  other_mute : (x : ConfirmedReply) → (x ≡ confirmed.Yes → ⊥) → IsMute (response (asked_by h) (Reply.Confirmed x))
  other_mute confirmed.Yes other = absurd (other refl)
  other_mute (confirmed.Conflict u how) other = reply_mute (asked_by h) (Reply.Confirmed (confirmed.Conflict u how)) tt
  other_mute (confirmed.Changed w) other = reply_mute (asked_by h) (Reply.Confirmed (confirmed.Changed w)) tt
  other_mute (confirmed.NoStores x) other = reply_mute (asked_by h) (Reply.Confirmed (confirmed.NoStores x)) tt
  other_mute (confirmed.Listed x s) other = reply_mute (asked_by h) (Reply.Confirmed (confirmed.Listed x s)) tt

  module _ (v : Parts) (r : Naming) (v_is : v ≡ with_naming t r) (taken : IsTaken h.path grants excluded included d.names n r)
      (how : (is_on n.confirmed (top_of h.path) ≡ true) ⊎ (is_prepared (top_of h.path) d.names ≡ true) ⊎ AllGranted grants n.inc) where
    -- what was confirmed before, or is now
    its_yes : IsFixed d.inc M.sent (top_of h.path)
    its_yes = ⊎_elim (λ old. let q = memory in subst (λ i. IsFixed i M.sent top) inc (q.confirmed top old))
        (λ rest. ⊎_elim (λ had. let q = node in (q.held top had).0) (λ all. its_fixed all) rest) how

    module _ (Z : Seen) (w : Went k M (IsCalmBut (λ u. ⊥)) Sends (Either D v) Z) where
      same : (let c = w.disk in c.intents) ≡ d.intents
      same = w.fits.0.1.1

      inc_same : (let c = w.disk in c.inc) ≡ d.inc
      inc_same = w.fits.0.1.0

      entries : (y : Uid) → is_prepared y (let c = w.disk in c.names) ≡ true → (is_prepared y d.names ≡ true) ⊎ ((y ≡ top) × New)
      entries y on = prepared_so Q (let c = w.disk in c.names) y w.fits.0.0 on

      silent : (p : Post) → Sends p → (j : Head) (a : Ask) → asks p.message ≡ Some (j, a) → asks_part a ≡ true → ⊥
      silent p (inl mute) j a is part = mute.0 j a is part
      silent p (inr yes_it) j a is part =
          none_not (sym (no_request (asked_by h) (Reply.Confirmed confirmed.Yes)) ∙ ap asks (sym yes_it) ∙ is)

      -- nothing is acknowledged
      unacked : (p : Post) → Sends p → acked_in p.message ≡ None
      unacked p (inl mute) = mute.1.1
      unacked p (inr yes_it) = ap acked_in yes_it

      back : (u : Uid) → HasAcked Z.sent u 1 → IsDone Z u → AsksMarked Z.sent u → HasAcked M.sent u 1 × IsDone Start u × AsksMarked M.sent u
      back = calm_back k d (Some t) M (λ u. ⊥) Sends (Either D v) Z w (λ u none on. none) (λ x j is. ap (at_uid x) (sym same) ∙ is)
          (λ x j is. inl (ap (at_uid x) same ∙ is)) silent (λ p so one_it. inl (unacked p so))

      grown : (u : Uid) → IsFixed d.inc M.sent u → IsFixed (let c = w.disk in c.inc) Z.sent u
      grown u f = fixed_on d.inc (let c = w.disk in c.inc) M.sent Z.sent (omega (arith, inc_same)) w.on u f

      -- of a decided top that naming acknowledged it prepares nothing
      not_again : (u : Uid) → (u ≡ top) × New → HasAcked M.sent u 1 → IsDone Start u → AsksMarked M.sent u → ⊥
      not_again u new acked done asked = ⊎_elim
          (λ told. let no_way : true ≡ false = sym (told_over h.path n (ap (is_on n.told) (sym new.0) ∙ told)) ∙ new.1.1.0 in cc no_way)
          (λ late. let g = new.1.1.1.1 in let l = subst (IsLate n.inc M.sent) new.0 late in
          below g.0.1 n.inc (new.1.1.1.0 g.0 g.1) (l.1 g.0 (subst (list.In g.0) (one_confirm Start right.0 top l.0 its).0 g.1)))
          (let q = memory in q.acked u acked done asked)
        where
          below : (a b : ℕ) → a ≡ b → a < b → ⊥
          below a b e l = omega (arith, e, l)

      names_node : k ≡ 1 → IsNamesNode Start (the_node k d (Some t)) → IsNamesNode Z (the_node k w.disk w.live)
      names_node at_one q = record {
        held = λ u on. ⊎_elim
            (λ old. let f = q.held u old in (grown u f.0, marked_on M.sent Z.sent w.on u f.1))
            (λ new. subst (λ y. IsFixed (let c = w.disk in c.inc) Z.sent y × AsksMarked Z.sent y) (sym new.0)
            (grown top (its_fixed new.1.1.1.0), marked_on M.sent Z.sent w.on top (its, new.1.0)))
            (entries u on);
        yeses = λ u y. grown u (yes_back u y);
        acked = λ u has done asked. let b = back u has done asked in off (is_prepared u (let c = w.disk in c.names)) (λ on. ⊎_elim
            (λ old. let no_way : true ≡ false = sym old ∙ q.acked u b.0 b.1 b.2 in cc no_way)
            (λ new. not_again u new b.0 b.1 b.2) (entries u on));
        live = live;
      }
        where
          off : (b : Bool) → (b ≡ true → ⊥) → b ≡ false
          off false none = refl
          off true none = absurd (none refl)

          yes_back : (u : Uid) → SaidConfirmed Z.sent u → IsFixed d.inc M.sent u
          yes_back u (p, i, a, is, act) = ⊎_elim (λ old. q.yeses u (p, old, a, is, act)) (λ new. said_now p new.1 a is act) (w.back p i)
            where
              said_now : (p : Post) → Sends p → (a : Asked) → answers p.message ≡ Some (a, Reply.Confirmed confirmed.Yes) → a.act ≡ u →
                  IsFixed d.inc M.sent u
              said_now p (inl mute) a is act = absurd (mute.1.0 a is)
              said_now p (inr yes_it) a is act =
                  let same_asked : asked_by h ≡ a = ap (λ (z : Asked × Reply). z.0)
                  (some_is (sym (response_reads_back (asked_by h) (Reply.Confirmed confirmed.Yes)) ∙ ap answers (sym yes_it) ∙ is)) in
                  subst (IsFixed d.inc M.sent) (sym own ∙ ap (λ (z : Asked). z.act) same_asked ∙ act) its_yes

          live : (s : Parts) (z : Naming) → w.live ≡ Some s → s.naming ≡ Some z → IsNamer Z s z
          live s z up_it named_z = ⊎_elim (λ none. none_not (sym none ∙ up_it)) (λ is. by (some_is (sym is ∙ up_it))) w.fits.1
            where
              by : v ≡ s → IsNamer Z s z
              by v_s =
                  let r_is : r ≡ z = some_is (ap (λ (y : Parts). y.naming) (sym v_is ∙ v_s) ∙ named_z) in
                  let coords : (let c = s.coord in let y = c.tree in y.inc) ≡ (let c = t.coord in let y = c.tree in
                  y.inc) = ap (λ (y : Parts). let c = y.coord in let x = c.tree in x.inc) (sym v_s ∙ v_is) in
                  subst (IsNamer Z s) r_is (record {
                    inc = taken.inc ∙ (let q = memory in q.inc) ∙ sym coords;
                    confirmed = λ u on. subst (λ i. IsFixed i Z.sent u) (sym taken.inc) (fixed_on n.inc n.inc M.sent Z.sent (omega arith)
                        w.on u (⊎_elim (λ old. let q = memory in q.confirmed u old) (λ new. subst (IsFixed n.inc M.sent) (sym new)
                        (subst (λ i. IsFixed i M.sent top) (sym inc) its_yes)) (taken.confirmed u on)));
                    acked = λ u has done asked. let b = back u has done asked in ⊎_elim (λ told. inl (taken.told u told)) (λ late.
                        inr (subst (λ i. IsLate i Z.sent u) (sym taken.inc) (late_on n.inc M.sent Z.sent w.on u late))) (let q = memory in
                        q.acked u b.0 b.1 b.2);
                  })

      taken_confirms : IsConfirming Z
      taken_confirms = calm_confirms k d (Some t) M (λ u. ⊥) Sends (Either D v) Z w (λ u none on. none) (λ x j is. ap (at_uid x) (sym same)
          ∙ is) (λ x j is. inl (ap (at_uid x) same ∙ is)) silent right.1 (λ other p so a is. other one) names_node

    taken_walk : (x : ConfirmedReply) (outs : List Effect) → AllByRecursion (IsTaking h.path grants excluded included d.names n) outs →
        (x ≡ confirmed.Yes ⊎ (x ≡ confirmed.Yes → ⊥)) →
        Walks AllKnown e k (outs ++ Send from (response (asked_by h) (Reply.Confirmed x)) ∷ []) (Up AllKnown k v) d M
        → Walks IsNaming e k (outs ++ Send from (response (asked_by h) (Reply.Confirmed x)) ∷ []) (Up IsNaming k v) d M
    taken_walk x outs all which known = step_walk AllKnown IsConfirming k M (IsCalmBut (λ u. ⊥)) Sends (quiet_calm (λ u. ⊥)) tt D v e
        (outs ++ Send from (response (asked_by h) (Reply.Confirmed x)) ∷ []) d
        (fits_both outs (Send from (response (asked_by h) (Reply.Confirmed x)) ∷ []) (fits outs all)
        (⊎_elim (λ is. inr (ap (λ z. response (asked_by h) (Reply.Confirmed z)) is)) (λ not_it. inl (other_mute x not_it)) which, tt))
        (first, (refl, refl)) (λ Z its_known w. taken_confirms Z w) known

  -- ---- both cases

  yes_or_not : (x : ConfirmedReply) → (x ≡ confirmed.Yes) ⊎ (x ≡ confirmed.Yes → ⊥)
  yes_or_not confirmed.Yes = inl refl
  yes_or_not (confirmed.Conflict u how) = inr (λ is. cc is)
  yes_or_not (confirmed.Changed w) = inr (λ is. cc is)
  yes_or_not (confirmed.NoStores x) = inr (λ is. cc is)
  yes_or_not (confirmed.Listed x s) = inr (λ is. cc is)

  pub confirm_walk : (v : Parts) (x : ConfirmedReply) (outs : List Effect) → v ≡ with_naming t (let r = confirm h.path grants excluded
      included d.names n in r.part) → (let r = confirm h.path grants excluded included d.names n in r.reply) ≡ Some x
      → outs ≡ (let r = confirm h.path grants excluded included d.names n in r.outs) ++ Send from (response (asked_by h)
      (Reply.Confirmed x)) ∷ [] → Walks AllKnown e k outs (Up AllKnown k v) d M → Walks IsNaming e k outs (Up IsNaming k v) d M
  confirm_walk v x outs v_is said are known = subst (λ es. Walks IsNaming e k es (Up IsNaming k v) d M) (sym are)
      (by (confirm_case h.path grants excluded included d.names n) (subst (λ es. Walks AllKnown e k es (Up AllKnown k v) d M) are known))
    where
      r : Served Naming ConfirmedReply
      r = confirm h.path grants excluded included d.names n

      last : List Effect
      last = Send from (response (asked_by h) (Reply.Confirmed x)) ∷ []

      stays : IsSameMemory n (confirm h.path grants excluded included d.names n).part → NamingStays t.naming v.naming
      stays same z is = (n, named, subst (IsSameMemory n) (some_is (sym (ap (λ (y : Parts). y.naming) v_is) ∙ is)) same)

      by : ConfirmCase h.path grants excluded included d.names n (confirm h.path grants excluded included d.names n) →
          Walks AllKnown e k ((confirm h.path grants excluded included d.names n).outs
          ++ Send from (response (asked_by h) (Reply.Confirmed x)) ∷ []) (Up AllKnown k v) d M
          → Walks IsNaming e k ((confirm h.path grants excluded included d.names n).outs
          ++ Send from (response (asked_by h) (Reply.Confirmed x)) ∷ []) (Up IsNaming k v) d M
      by (Refuses same all no_yes) z = aside_walk k d t v M e right.1 (part_memory t v (ap (λ (y : Parts). y.coord) v_is) (stays same))
          (r.outs ++ last) (all_both IsAside r.outs last all (other_mute x (λ is. no_yes (said ∙ ap Some is)), tt)) z
      by (Takes how taken all) z = taken_walk v r.part v_is taken how x r.outs all (yes_or_not x) z
