-- Naming is told an end: what it aborts is of no decided top, and what it acknowledges it has prepared no more.
use Rattle.arj_law_parts.proofs.Words
use Words.{◌≡◌, ◌⊎◌, ◌∙◌, ◌++◌, ℕ, Bool, true, false, cond, List, [], ◌∷◌, Option, Some, None, refl, sym, ap, subst, inl, inr, ⊎_elim}
use Words.{arith, ⊤, is_some, AllByRecursion, flat_map, list_all, and_parts, Ask, Asked, Body, End, Head, Message, ObjectState, Uid, asks}
use Words.{is_on, Reply, answers, last_end, Abort, Commit, Did, Disk, Do, Effect, Intent, Look, Pair, Prepare, PutInc, PutIntent}
use Words.{RemoveIntent, Say, Send, Work, did_nothing, is_prepared, worked, Naming, end_entries, end_lines, end_orphans, has_locks, orphans}
use Words.{own_entries, taken_end, told_new, Parts, ack_told, end_states, store_told, at_uid, AreAll, is_server_effect, Post, Seen}
use Words.body
use Words.confirmed
use Words.ending
use Words.message
use Words.part
use Words.role
use Words.naming
use Rattle.arj_law_promise.proofs.Terms
use Terms.{told_by, with_on, In, posted, said, up, Up, Walks, book, is_decided, asks_part, HasAcked, IsDemanded, acked_in, HasPrepared}
use Terms.{some_is}
use Terms.keys
use Rattle.arj_law_disk_view.specs.view.Pairs.{AreSorted}
use Rattle.arj_law_parts.proofs.parts.Keys.{on_drop}
use Rattle.arj_law_promise.proofs.settling
use settling.{AskedWalks.drop_prepared, Cores.IsDone, Milds.here_is, Milds.the_node, Steps.Either, Steps.step_walk, Trails.FitsSo}
use settling.{Trails.Went}
use settling.ConfirmCases.{AllAside, IsCalmBut, IsMute, server_aside}
use settling.ConfirmKnown.{AllKnown, IsNaming, no_naming, prepared_itself, prepared_so, sorted_names}
use settling.ConfirmParts.{calm_asked, calm_confirms, calm_done, quiet_calm}
use settling.ConfirmTaken.{HasEntriesOf, WorksFor, entries_stop}
use settling.Confirms.{AsksMarked, IsConfirming, IsFixed, IsLate, IsNamer, IsNamesNode, SaidConfirmed, fixed_on, late_on, marked_on}
use settling.Confirms.{none_not}

never : {P : Type 0} {b : Bool} → b ≡ true → b ≡ false → P
never {P} {b} holds fails = let no_way : true ≡ false = sym holds ∙ fails in absurd (cc no_way)

-- ---- the disk behind effects

-- the disk when all of them are done
abbrev pub done : List Effect → Disk → Disk
done [] d = d
done (Do w ∷ es) d = done es (worked w d)
done (Say b ∷ es) d = done es d
done (Send to m ∷ es) d = done es d

done_both : (xs ys : List Effect) (d : Disk) → done (xs ++ ys) d ≡ done ys (done xs d)
done_both [] ys d = refl
done_both (Do w ∷ xs) ys d = done_both xs ys (worked w d)
done_both (Say b ∷ xs) ys d = done_both xs ys d
done_both (Send to m ∷ xs) ys d = done_both xs ys d

-- effects without work, and those of which no work stands behind a message
abbrev pub IsWorkless : Effect → Type 0
IsWorkless (Do w) = ⊥
IsWorkless e = ⊤

abbrev pub SendsLast : List Effect → Type 0
SendsLast [] = ⊤
SendsLast (Send to m ∷ es) = AllByRecursion IsWorkless es
SendsLast (Say b ∷ es) = SendsLast es
SendsLast (Do w ∷ es) = SendsLast es

workless_walk : (P : Seen → Type 0) (e k : ℕ) (es : List Effect) → AllByRecursion IsWorkless es → (c d : Disk) → done es c ≡ d →
    (N : Seen) → Walks P e k es (λ b Z. b ≡ d) c N
workless_walk P e k [] none c d is N = is
workless_walk P e k (Say b ∷ es) none c d is N = workless_walk P e k es none.1 c d is (said e (b ∷ []) N)
workless_walk P e k (Send to m ∷ es) none c d is N =
    λ more q. workless_walk P e k es none.1 c d is (said e more (posted (record { from = k; to = to; message = m }) N))
workless_walk P e k (Do w ∷ es) none c d is N = absurd none.0

-- at a stop nothing was sent yet, and at the end all is done
pub sent_walk : (S : List Post) (e k : ℕ) (es : List Effect) → SendsLast es → (c d : Disk) → done es c ≡ d → (N : Seen) → N.sent ≡ S →
    Walks (λ Z. Z.sent ≡ S) e k es (λ b Z. b ≡ d) c N
sent_walk S e k [] ok c d is N same = is
sent_walk S e k (Say b ∷ es) ok c d is N same = sent_walk S e k es ok c d is (said e (b ∷ []) N) same
sent_walk S e k (Do w ∷ es) ok c d is N same = ((λ how. same), sent_walk S e k es ok (worked w c) d is N same)
sent_walk S e k (Send to m ∷ es) ok c d is N same =
    λ more q. workless_walk (λ Z. Z.sent ≡ S) e k es ok c d is (said e more (posted (record { from = k; to = to; message = m }) N))

-- ---- fewer entries

-- nothing is prepared by naming, and what is said and sent may be any
abbrev IsLess : Effect → Type 0
IsLess (Do (Prepare role.Names u states)) = ⊥
IsLess (Do (PutInc i)) = ⊥
IsLess (Do (PutIntent u i)) = ⊥
IsLess (Do (RemoveIntent u)) = ⊥
IsLess (Send to m) = ⊥
IsLess e = ⊤

less_done : (Q : Uid → Type 0) (es : List Effect) → AllByRecursion IsLess es → (d : Disk) → HasPrepared Q d.names →
    HasPrepared Q (done es d).names
less_done Q [] all d h = h
less_done Q (Say b ∷ es) all d h = less_done Q es all.1 d h
less_done Q (Send to m ∷ es) all d h = absurd all.0
less_done Q (Do Look ∷ es) all d h = less_done Q es all.1 d h
less_done Q (Do (PutInc i) ∷ es) all d h = absurd all.0
less_done Q (Do (Prepare role.Store u states) ∷ es) all d h = less_done Q es all.1 (worked (Prepare role.Store u states) d) h
less_done Q (Do (Prepare role.Names u states) ∷ es) all d h = absurd all.0
less_done Q (Do (Commit role.Store u) ∷ es) all d h = less_done Q es all.1 (worked (Commit role.Store u) d) h
less_done Q (Do (Commit role.Names u) ∷ es) all d h = less_done Q es all.1 (worked (Commit role.Names u) d)
    (drop_prepared Q u d.names (let z = worked (Commit role.Names u) d in z.names) refl h)
less_done Q (Do (Abort role.Store u) ∷ es) all d h = less_done Q es all.1 (worked (Abort role.Store u) d) h
less_done Q (Do (Abort role.Names u) ∷ es) all d h = less_done Q es all.1 (worked (Abort role.Names u) d)
    (drop_prepared Q u d.names (let z = worked (Abort role.Names u) d in z.names) refl h)
less_done Q (Do (PutIntent u i) ∷ es) all d h = absurd all.0
less_done Q (Do (RemoveIntent u) ∷ es) all d h = absurd all.0

less_last : (es : List Effect) → AllByRecursion IsLess es → (fs : List Effect) → SendsLast fs → SendsLast (es ++ fs)
less_last [] all fs ok = ok
less_last (Say b ∷ es) all fs ok = less_last es all.1 fs ok
less_last (Send to m ∷ es) all fs ok = absurd all.0
less_last (Do w ∷ es) all fs ok = less_last es all.1 fs ok

less_both : (xs ys : List Effect) → AllByRecursion IsLess xs → AllByRecursion IsLess ys → AllByRecursion IsLess (xs ++ ys)
less_both [] ys a b = b
less_both (x ∷ xs) ys a b = (a.0, less_both xs ys a.1 b)

-- ---- what naming does

-- its own entries, and those of orphans: entries that go, with their lines
entries_less : (u : Uid) (how : End) → AllByRecursion IsLess (end_entries u how)
entries_less u ending.Commit = (tt, (tt, tt))
entries_less u ending.Abort = (tt, (tt, tt))

own_less : (u : Uid) (how : End) (d : Pair) → AllByRecursion IsLess (own_entries u how d)
own_less u how d = by (is_prepared u d)
  where
    by : (b : Bool) → AllByRecursion IsLess (cond b (end_entries u how) [])
    by true = entries_less u how
    by false = tt

orphans_less : (us : List Uid) → AllByRecursion IsLess (flat_map (λ act. end_entries act ending.Abort) us)
orphans_less [] = tt
orphans_less (u ∷ us) = less_both (end_entries u ending.Abort) (flat_map (λ act. end_entries act ending.Abort) us)
    (entries_less u ending.Abort) (orphans_less us)

lines_less : (u : Uid) (how : End) (n : Naming) → AllByRecursion IsLess (end_lines u how n)
lines_less u how n = by (has_locks u n)
  where
    by : (b : Bool) → AllByRecursion IsLess (cond b (Say (body.Told 1 u how part.Naming) ∷ []) [])
    by true = (tt, tt)
    by false = tt

rest_less : (u : Uid) (how : End) (d : Pair) (n : Naming) (told : Bool) →
    AllByRecursion IsLess (cond {A = Did Naming} told (did_nothing n) (told_new u (taken_end u how n) d n)).outs
rest_less u how d n true = tt
rest_less u how d n false = less_both (end_orphans u (taken_end u how n) d n) (end_lines u (taken_end u how n) n) (by (taken_end u how n))
    (lines_less u (taken_end u how n) n)
  where
    by : (f : End) → AllByRecursion IsLess (end_orphans u f d n)
    by ending.Commit = tt
    by ending.Abort = orphans_less (orphans u d n)

store_less : (k : ℕ) (u : Uid) (how : End) (d : Pair) → AllByRecursion IsLess (store_told k u how d)
store_less k u how d = by (is_prepared u d) how
  where
    by : (b : Bool) (f : End) → AllByRecursion IsLess (cond b (end_states k u f) [])
    by true ending.Commit = (tt, (tt, tt))
    by true ending.Abort = (tt, (tt, tt))
    by false f = tt

-- the store leaves naming's entries
store_names : (k : ℕ) (u : Uid) (how : End) (p : Pair) (d : Disk) → (done (store_told k u how p) d).names ≡ d.names
store_names k u how p d = by (is_prepared u p) how
  where
    by : (b : Bool) (f : End) → (done (cond b (end_states k u f) []) d).names ≡ d.names
    by true ending.Commit = refl
    by true ending.Abort = refl
    by false f = refl

server_less : (n : ℕ) (es : List Effect) → AreAll (is_server_effect n) es → AllByRecursion IsLess es
server_less n [] own = tt
server_less n (Say b ∷ es) own = (tt, server_less n es (and_parts (is_server_effect n (Say b)) (list_all (is_server_effect n) es) own).1)
server_less n (Send to m ∷ es) own = absurd (cc own)
server_less n (Do w ∷ es) own = absurd (cc own)

ack_last : (from : ℕ) (u : Uid) (ack : Bool) → SendsLast (ack_told from u ack)
ack_last from u true = tt
ack_last from u false = tt

ack_done : (from : ℕ) (u : Uid) (ack : Bool) (d : Disk) → done (ack_told from u ack) d ≡ d
ack_done from u true d = refl
ack_done from u false d = refl

-- its own entries are gone
own_gone : (u : Uid) (how : End) (p : Pair) (d : Disk) → d.names ≡ p → AreSorted (let q = d.names in q.pend) →
    is_prepared u (done (own_entries u how p) d).names ≡ false
own_gone u how p d same sorted = by (is_prepared u p) refl how
  where
    by : (b : Bool) → is_prepared u p ≡ b → (f : End) → is_prepared u (done (cond b (end_entries u f) []) d).names ≡ false
    by true on ending.Commit = ap (λ (o : Option (List ObjectState)). is_some o) (keys.without_same u (let q = d.names in q.pend) sorted)
    by true on ending.Abort = ap (λ (o : Option (List ObjectState)). is_some o) (keys.without_same u (let q = d.names in q.pend) sorted)
    by false off f = ap (is_prepared u) same ∙ off

-- naming's memory of an end
record IsToldOf (u : Uid) (n p : Naming) : Type 0 where
  inc : p.inc ≡ n.inc
  told : (y : Uid) → is_on n.told y ≡ true → is_on p.told y ≡ true
  confirmed : (y : Uid) → is_on p.confirmed y ≡ true → is_on n.confirmed y ≡ true
  its : is_on p.told u ≡ true

told_of : (u : Uid) (how : End) (d : Pair) (n : Naming) → IsToldOf u n (naming.told u how d n).part
told_of u how d n = by (is_on n.told u) refl
  where
    by : (b : Bool) → is_on n.told u ≡ b → IsToldOf u n (cond {A = Did Naming} b (did_nothing n) (told_new u (taken_end u how n) d n)).part
    by true on = record { inc = refl; told = λ y is. is; confirmed = λ y is. is; its = on }
    by false off = record {
      inc = refl;
      told = λ y is. with_on y u n.told (inr is);
      confirmed = λ y is. (on_drop y u n.confirmed is).1;
      its = with_on u u n.told (inl refl);
    }

-- behind its own entries nothing of the action is prepared any more
gone_behind : (u : Uid) (store own rest lines ack : List Effect) (d : Disk) → AllByRecursion IsLess store → AllByRecursion IsLess own →
    AllByRecursion IsLess rest → AllByRecursion IsLess lines → ((c : Disk) → done ack c ≡ c) →
    HasPrepared (λ y. is_prepared y d.names ≡ true) d.names
    → is_prepared u (done own (done store d)).names ≡ false →
    is_prepared u (done (((store ++ (own ++ rest)) ++ lines) ++ ack) d).names ≡ false
gone_behind u store own rest lines ack d a b c f still first gone = ap (λ (z : Disk). is_prepared u z.names) are
    ∙ off (is_prepared u (done lines (done rest (done own (done store d)))).names) (λ on. never (prepared_so
    (λ y. is_prepared y (done own (done store d)).names ≡ true) (done lines (done rest (done own (done store d)))).names u left on) gone)
  where
    are : done (((store ++ (own ++ rest)) ++ lines) ++ ack) d ≡ done lines (done rest (done own (done store d)))
    are = done_both ((store ++ (own ++ rest)) ++ lines) ack d ∙ still (done ((store ++ (own ++ rest)) ++ lines) d)
        ∙ done_both (store ++ (own ++ rest)) lines d ∙ ap (done lines) (done_both store (own ++ rest) d ∙ done_both own rest (done store d))

    there : HasPrepared (λ y. is_prepared y d.names ≡ true) (done own (done store d)).names
    there =
        less_done (λ y. is_prepared y d.names ≡ true) own b (done store d) (less_done (λ y. is_prepared y d.names ≡ true) store a d first)

    left : HasPrepared (λ y. is_prepared y (done own (done store d)).names ≡ true) (done lines (done rest (done own (done store d)))).names
    left = less_done (λ y. is_prepared y (done own (done store d)).names ≡ true) lines f (done rest (done own (done store d)))
        (less_done (λ y. is_prepared y (done own (done store d)).names ≡ true) rest c (done own (done store d))
        (prepared_itself (done own (done store d)).names there.sorted))

    off : (x : Bool) → (x ≡ true → ⊥) → x ≡ false
    off false none = refl
    off true none = absurd (none refl)

-- what has been done when all is: nothing was sent before the last work, and the action's own entries are gone
pub told_left : (k : ℕ) (u : Uid) (how : End) (d : Disk) (n : Naming) (from : ℕ) (ack : Bool) (lines : List Effect) →
    AreAll (is_server_effect k) lines → AreSorted (let p = d.names in p.pend)
    → SendsLast (((store_told k u how d.store ++ (naming.told u how d.names n).outs) ++ lines) ++ ack_told from u ack) × (is_prepared u
    (done (((store_told k u how d.store ++ (naming.told u how d.names n).outs) ++ lines) ++ ack_told from u ack) d).names ≡ false)
told_left k u how d n from ack lines own sorted = (
  less_last ((store_told k u how d.store ++ (naming.told u how d.names n).outs) ++ lines)
      (less_both (store_told k u how d.store ++ (naming.told u how d.names n).outs) lines
      (less_both (store_told k u how d.store) (naming.told u how d.names n).outs (store_less k u how d.store)
      (less_both (own_entries u how d.names) rest (own_less u how d.names) (rest_less u how d.names n (is_on n.told u))))
      (server_less k lines own)) (ack_told from u ack) (ack_last from u ack),
  gone_behind u (store_told k u how d.store) (own_entries u how d.names) rest lines (ack_told from u ack) d (store_less k u how d.store)
      (own_less u how d.names) (rest_less u how d.names n (is_on n.told u)) (server_less k lines own) (ack_done from u ack)
      (prepared_itself d.names sorted)
      (own_gone u how d.names (done (store_told k u how d.store) d) (store_names k u how d.store d)
      (subst (λ (p : Pair). AreSorted p.pend) (sym (store_names k u how d.store d)) sorted)),
)
  where
    rest : List Effect
    rest = (cond {A = Did Naming} (is_on n.told u) (did_nothing n) (told_new u (taken_end u how n) d.names n)).outs

-- ---- what is said and sent

module _ (k : ℕ) (d : Disk) (t : Parts) (M : Seen) (right : IsNaming (up k d t M)) (from : ℕ) (m : Message) (there : In
    (record { from = from; to = k; message = m }) M.sent) (e : ℕ) (u : Uid) (how : End) (last : last_end (told_by m) ≡ Some (u, how)) where
  abbrev Start : Seen
  Start = up k d t M

  pub here : Start.nodes k ≡ Some (the_node k d (Some t))
  here = here_is k d (Some t) M

  pub sorted : AreSorted (let p = d.names in p.pend)
  sorted = sorted_names Start right.0 k (the_node k d (Some t)) here

  pub first : HasPrepared (λ y. is_prepared y d.names ≡ true) d.names
  first = prepared_itself d.names sorted

  -- it mutely does its work, or acknowledges the end
  abbrev pub Sends : Post → Type 0
  Sends p = IsMute p.message ⊎ (p.message ≡ message.Acked (record { act = u }))

  silent : (p : Post) → Sends p → (j : Head) (a : Ask) → asks p.message ≡ Some (j, a) → asks_part a ≡ true → ⊥
  silent p (inl mute) j a is part = mute.0 j a is part
  silent p (inr acked) j a is part = none_not (ap asks (sym acked) ∙ is)

  no_yes : (p : Post) → Sends p → (a : Asked) → answers p.message ≡ Some (a, Reply.Confirmed confirmed.Yes) → ⊥
  no_yes p (inl mute) a is = mute.1.0 a is
  no_yes p (inr acked) a is = none_not (ap answers (sym acked) ∙ is)

  pub acks_it : (p : Post) → Sends p → (y : Uid) → acked_in p.message ≡ Some y → y ≡ u
  acks_it p (inl mute) y is = none_not (sym mute.1.1 ∙ is)
  acks_it p (inr acked) y is = sym (some_is (ap acked_in (sym acked) ∙ is))

  abbrev pub L : Uid → Type 0
  L x = IsDone (up k d t M) x → ⊥

  lost : (x : Uid) → L x → is_decided (book M.lines) x ≡ true → ⊥
  lost x l on = l (inl on)

  abbrev pub D : Disk → Type 0
  D = HasEntriesOf (λ y. is_prepared y d.names ≡ true) d

  abbrev pub Fits : Effect → Type 0
  Fits = FitsSo k M (IsCalmBut L) Sends (quiet_calm L) tt D

  pub stops : (w : Work) → WorksFor (λ y. is_prepared y d.names ≡ true) w → Fits (Do w)
  stops w so c h s = entries_stop (λ y. is_prepared y d.names ≡ true) s w d c so h

  pub fits_both : (xs ys : List Effect) → AllByRecursion Fits xs → AllByRecursion Fits ys → AllByRecursion Fits (xs ++ ys)
  fits_both [] ys a b = b
  fits_both (x ∷ xs) ys a b = (a.0, fits_both xs ys a.1 b)

  pub fits_store : AllByRecursion Fits (store_told k u how d.store)
  fits_store = by (is_prepared u d.store) how
    where
      by : (b : Bool) (f : End) → AllByRecursion Fits (cond b (end_states k u f) [])
      by true ending.Commit = (stops (Commit role.Store u) tt, (tt, tt))
      by true ending.Abort = (stops (Abort role.Store u) tt, (tt, tt))
      by false f = tt

  pub fits_server : (es : List Effect) → AreAll (is_server_effect k) es → AllByRecursion Fits es
  fits_server es own = by es (server_less k es own) (server_aside k es own)
    where
      calm : (b : Body) → IsCalmBut (λ x. ⊥) b → IsCalmBut L b
      calm (body.Committed l) so = so
      calm (body.Recovered j x) so = so
      calm (body.Done j x role.Names ending.Abort) so = absurd so
      calm (body.Done j x role.Names ending.Commit) so = tt
      calm (body.Done j x role.Store f) so = tt
      calm b so = tt

      by : (fs : List Effect) → AllByRecursion IsLess fs → AllAside fs → AllByRecursion Fits fs
      by [] less all = tt
      by (Say b ∷ fs) less all = (calm b all.0, by fs less.1 all.1)
      by (Send to z ∷ fs) less all = absurd less.0
      by (Do Look ∷ fs) less all = (stops Look tt, by fs less.1 all.1)
      by (Do (PutInc i) ∷ fs) less all = absurd less.0
      by (Do (Prepare role.Store x states) ∷ fs) less all = (stops (Prepare role.Store x states) tt, by fs less.1 all.1)
      by (Do (Prepare role.Names x states) ∷ fs) less all = absurd less.0
      by (Do (Commit r x) ∷ fs) less all = (stops (Commit r x) tt, by fs less.1 all.1)
      by (Do (Abort r x) ∷ fs) less all = (stops (Abort r x) tt, by fs less.1 all.1)
      by (Do (PutIntent x i) ∷ fs) less all = absurd less.0
      by (Do (RemoveIntent x) ∷ fs) less all = absurd less.0

  pub fits_ack : (ack : Bool) → AllByRecursion Fits (ack_told from u ack)
  fits_ack true = (inr refl, tt)
  fits_ack false = tt

  -- ---- behind it

  module _ (v : Parts) (same : v.coord ≡ t.coord) where
    module _ (Z : Seen) (w : Went k M (IsCalmBut L) Sends (Either D v) Z) where
      records : (let c = w.disk in c.intents) ≡ d.intents
      records = w.fits.0.1.1

      rec_back : (x : Uid) (j : Intent) → at_uid x (let c = w.disk in c.intents) ≡ Some j → at_uid x d.intents ≡ Some j
      rec_back x j is = ap (at_uid x) (sym records) ∙ is

      rec_on : (x : Uid) (j : Intent) → at_uid x d.intents ≡ Some j →
          (at_uid x (let c = w.disk in c.intents) ≡ Some j) ⊎ IsDemanded M.sent x
      rec_on x j is = inl (ap (at_uid x) records ∙ is)

      pub told_confirms : (k ≡ 1 → IsNamesNode Start (the_node k d (Some t)) → IsNamesNode Z (the_node k w.disk w.live)) → IsConfirming Z
      told_confirms node = calm_confirms k d (Some t) M L Sends (Either D v) Z w lost rec_back rec_on silent right.1
          (λ other p so a is. no_yes p so a is) node

      -- node 1, where what is acknowledged now is prepared no more, and was told
      pub told_node : (n : Naming) → t.naming ≡ Some n → v.naming ≡ Some (naming.told u how d.names n).part
          → ((y : Uid) → HasAcked Z.sent y 1 → HasAcked M.sent y 1 ⊎ ((y ≡ u) × (is_prepared u (let c = w.disk in c.names) ≡ false))) →
          k ≡ 1 → IsNamesNode Start (the_node k d (Some t)) → IsNamesNode Z (the_node k w.disk w.live)
      told_node n named moved acks one q = record {
        held = λ y on. let f = q.held y (less y on) in (grown y f.0, marked_on M.sent Z.sent w.on y f.1);
        yeses = λ y yes_it. grown y (q.yeses y (yes_back y yes_it));
        acked = λ y has done asked. ⊎_elim
            (λ old. off (is_prepared y (let c = w.disk in c.names))
            (λ on. never (less y on) (q.acked y old (was_done y done) (was_asked y asked))))
            (λ new. ap (λ z. is_prepared z (let c = w.disk in c.names)) new.0 ∙ new.1) (acks y has);
        live = live;
      }
        where
          was_done : (y : Uid) → IsDone Z y → IsDone Start y
          was_done = calm_done k d (Some t) M L Sends (Either D v) Z w lost rec_back rec_on silent

          was_asked : (y : Uid) → AsksMarked Z.sent y → AsksMarked M.sent y
          was_asked = calm_asked k d (Some t) M L Sends (Either D v) Z w lost rec_back rec_on silent

          less : (y : Uid) → is_prepared y (let c = w.disk in c.names) ≡ true → is_prepared y d.names ≡ true
          less y on = prepared_so (λ x. is_prepared x d.names ≡ true) (let c = w.disk in c.names) y w.fits.0.0 on

          inc_same : (let c = w.disk in c.inc) ≡ d.inc
          inc_same = w.fits.0.1.0

          grown : (y : Uid) → IsFixed d.inc M.sent y → IsFixed (let c = w.disk in c.inc) Z.sent y
          grown y f = fixed_on d.inc (let c = w.disk in c.inc) M.sent Z.sent (omega (arith, inc_same)) w.on y f

          yes_back : (y : Uid) → SaidConfirmed Z.sent y → SaidConfirmed M.sent y
          yes_back y (p, i, a, is, act) = ⊎_elim (λ old. (p, old, a, is, act)) (λ new. absurd (no_yes p new.1 a is)) (w.back p i)

          off : (b : Bool) → (b ≡ true → ⊥) → b ≡ false
          off false none = refl
          off true none = absurd (none refl)

          live : (s : Parts) (z : Naming) → w.live ≡ Some s → s.naming ≡ Some z → IsNamer Z s z
          live s z up_it named_z = ⊎_elim (λ none. none_not (sym none ∙ up_it)) (λ is. by (some_is (sym is ∙ up_it))) w.fits.1
            where
              h : IsNamer Start t n
              h = q.live t n refl named

              p : Naming
              p = (naming.told u how d.names n).part

              r : IsToldOf u n (naming.told u how d.names n).part
              r = told_of u how d.names n

              by : v ≡ s → IsNamer Z s z
              by v_s =
                  let p_is : (naming.told u how d.names n).part ≡ z = some_is (sym moved ∙ ap (λ (y : Parts). y.naming) v_s ∙ named_z) in
                  let coords : (let c = s.coord in let y = c.tree in y.inc) ≡ (let c = t.coord in let y = c.tree in y.inc) = ap
                  (λ (y : Parts). let c = y.coord in let x = c.tree in x.inc) (sym v_s) ∙ ap (λ c. let x = c.tree in x.inc) same in
                  subst (IsNamer Z s) p_is (record {
                    inc = r.inc ∙ h.inc ∙ sym coords;
                    confirmed = λ y on. subst (λ i. IsFixed i Z.sent y) (sym r.inc)
                        (fixed_on n.inc n.inc M.sent Z.sent (omega arith) w.on y (h.confirmed y (r.confirmed y on)));
                    acked = λ y has done asked. ⊎_elim
                        (λ old. ⊎_elim (λ told. inl (r.told y told)) (λ late. inr (subst (λ i. IsLate i Z.sent y) (sym r.inc)
                        (late_on n.inc M.sent Z.sent w.on y late))) (h.acked y old (was_done y done) (was_asked y asked)))
                        (λ new. inl (ap (is_on (let x = p in x.told)) new.0 ∙ r.its)) (acks y has);
                  })

    -- ---- a node without naming

    pub apart_told : (ack : Bool) (lines : List Effect) → AreAll (is_server_effect k) lines → t.naming ≡ None →
        Walks AllKnown e k ((store_told k u how d.store ++ lines) ++ ack_told from u ack) (Up AllKnown k v) d M
        → Walks IsNaming e k ((store_told k u how d.store ++ lines) ++ ack_told from u ack) (Up IsNaming k v) d M
    apart_told ack lines own none known = step_walk AllKnown IsConfirming k M (IsCalmBut L) Sends (quiet_calm L) tt D v e
        ((store_told k u how d.store ++ lines) ++ ack_told from u ack) d
        (fits_both (store_told k u how d.store ++ lines) (ack_told from u ack)
        (fits_both (store_told k u how d.store) lines fits_store (fits_server lines own)) (fits_ack ack)) (first, (refl, refl))
        (λ Z its w. told_confirms Z w (λ one q. absurd (no_naming Start right.0 k (the_node k d (Some t)) t here refl none one))) known
