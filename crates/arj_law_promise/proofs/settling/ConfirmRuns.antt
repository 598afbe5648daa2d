-- What holds of naming's confirmations is kept by each handler, and so in every run.
use Rattle.arj_law_parts.proofs.Words
use Words.{◌+◌}
use Words.{node_by, world_from}
use Words.{◌≡◌, ◌∙◌, ◌++◌, ℕ, false, cond, List, [], ◌∷◌, Option, Some, None, refl, sym, ap, subst, inl, inr, arith, ⊤, AllByRecursion}
use Words.{list_all, and_parts, Body, Header, Kind, Label, Line, Message, Uid, begin_action, heard, Disk, Effect, answer_query, Naming}
use Words.{Parts, ack_told, naming_told, store_told, with_coord, parent_of, parts_in, next_uid}
use Words.{numbered, world_by, Seen, see, is_serial}
use Words.body
use Words.world
use Rattle.arj_law_promise.proofs.Terms
use Terms.{IsAtStarts, disk_by, live_first}
use Terms.{Action, Holds, Keeps, AreQuiet, In, given, is_quiet_line, said, up, Up, Walks, keeps_asked, moves_asked, keeps_given, kept_both}
use Terms.{AreRecorded, first_at, IsPathedOf, KeepsOf, KnowsParted, WorksAreKnown, kept_of, AcksAreKnown, acked_in, of_both, of_more}
use Terms.{records_of, ArePastIn, some_is}
use Rattle.arj_law_lock_view.proofs.facts.{PartWalks.parted_keep, Works.works_keep}
use Rattle.arj_law_promise.proofs.settling
use settling.{ConfirmAcks.acked_naming, ConfirmEnds.naming_walk, ConfirmStarts.restart_naming, ConfirmTaken.confirm_walk}
use settling.{ConfirmTells.apart_told, Cores.IsDone, Lights.undecided, Milds.here_is, Milds.the_node, Rights.right_keep, Stills.IsRight}
use settling.{Trails.Went}
use settling.ConfirmCases.{Acks, Aside, Asks, Confirms, Hears, IsCalmBut, NamesCase, Tells, names_case}
use settling.ConfirmKnown.{AllKnown, IsNaming, KnowsNaming, NamingKnown}
use settling.ConfirmMoves.{act_naming, heard_naming, tick_naming}
use settling.ConfirmParts.{all_undeciding, aside_walk, lost_so, mute_confirms, part_memory, query_walk, quiet_calm, stop_confirms}
use settling.Confirms.{IsConfirming, IsNamer, IsNamesNode, further, same_memory, still_names, to_records}
use Rattle.arj_law_runs.proofs.journal
use journal.Paths.{act_pathed, begin_pathed, first_pathed, message_pathed, quiet_pathed, restart_pathed, stop_pathed, tick_pathed}
use Rattle.arj_law_serial.proofs.{past.Past.past_of, whole.AckRuns.acks_of, whole.AckWalks.AcksNeed, whole.Of.of_kept}
use Rattle.arj_promise.specs.Runs.{Run}

nothing_more : {A : Type 0} (xs : List A) → xs ++ [] ≡ xs
nothing_more [] = refl
nothing_more (x ∷ xs) = ap (λ ys. x ∷ ys) (nothing_more xs)

-- ---- what is known

pathed_of : (hd : Header) → KeepsOf hd (λ begun M. ⊤) IsPathedOf
pathed_of hd = record {
  quiet = λ begun e bs M quiet more good p. quiet_pathed hd begun e bs M quiet p;
  stop = λ begun e k d live M more good p. stop_pathed hd begun e k d live M p;
  message = λ begun e k d t v from m outs M more good p there meant is. message_pathed hd begun e k d t v from m outs M p there meant is;
  act = λ begun e k d t i M is free more good p. act_pathed hd begun e k d t i M is free p;
  begin = λ begun e k d t l how parent M new may free more good p. begin_pathed hd begun e k d t l how parent M new may free p;
  tick = λ begun e k d t M more good p. tick_pathed hd begun e k d t M p;
  restart = λ begun e k d M more good p. restart_pathed hd begun e k d M p;
  first = first_pathed hd;
}

module _ (hd : Header) where
  abbrev Free : List Action → Seen → Type 0
  Free begun M = ⊤

  abbrev With : (List Action → Seen → Type 0) → List Action → Seen → Type 0
  With Q begun M = Free begun M × Q begun M

  abbrev Ended : List Action → Seen → Type 0
  Ended begun M = ArePastIn begun M × AreRecorded begun M

  abbrev Working : List Action → Seen → Type 0
  Working begun M = KnowsParted begun M × WorksAreKnown M

  abbrev Told : List Action → Seen → Type 0
  Told begun M = Ended begun M × Working begun M

  abbrev Acked : List Action → Seen → Type 0
  Acked begun M = AcksAreKnown false begun M × IsPathedOf begun M

  free : (Q R : List Action → Seen → Type 0) → KeepsOf hd Free R → KeepsOf hd (With Q) R
  free Q R one = of_more hd Free (With Q) R (λ begun M h. tt) one

  ended : KeepsOf hd Free Ended
  ended = of_both hd Free ArePastIn AreRecorded (free AreRecorded ArePastIn (past_of hd)) (free ArePastIn AreRecorded (records_of hd))

  working : KeepsOf hd Free Working
  working = of_both hd Free KnowsParted (λ begun M. WorksAreKnown M) (free (λ begun M. WorksAreKnown M) KnowsParted (parted_keep hd))
      (of_kept hd (With KnowsParted) WorksAreKnown (works_keep hd))

  told : KeepsOf hd Free Told
  told = of_both hd Free Ended Working (free Working Ended ended) (free Ended Working working)

  acked : KeepsOf hd (With Told) Acked
  acked = of_both hd (With Told) (AcksAreKnown false) IsPathedOf
      (of_more hd (AcksNeed false) (λ begun M. With Told begun M × IsPathedOf begun M) (AcksAreKnown false)
      (λ begun M h. ((λ few. absurd (cc few)), (h.0.1.0.0, (h.0.1.0.1, (h.0.1.1.0, h.0.1.1.1))))) (acks_of hd false))
      (of_more hd Free (λ begun M. With Told begun M × AcksAreKnown false begun M) IsPathedOf (λ begun M h. tt) (pathed_of hd))

  knows_of : KeepsOf hd Free KnowsNaming
  knows_of = of_both hd Free Told Acked (free Acked Told told) acked

  all_keep : Keeps hd AllKnown
  all_keep = kept_both hd IsRight NamingKnown (right_keep hd) (keeps_given hd IsRight NamingKnown (kept_of hd KnowsNaming knows_of))

-- ---- quiet lines

all_quiet : (e : ℕ) (bs : List Body) → AreQuiet bs → AllByRecursion (λ (l : Line). IsCalmBut (λ u. ⊥) l.body) (numbered e bs)
all_quiet e [] q = tt
all_quiet e (b ∷ bs) q = let p = and_parts (is_quiet_line b) (list_all is_quiet_line bs) q in
    (quiet_calm (λ u. ⊥) b p.0, all_quiet e bs p.1)

quiet_confirms : (e : ℕ) (bs : List Body) (M : Seen) → AreQuiet bs → IsConfirming M → IsConfirming (said e bs M)
quiet_confirms e bs M quiet core = further M (said e bs M) core (record {
  more = numbered e bs;
  lines = refl;
  sent = λ p i. i;
  done = λ u is. inl (was_done u is);
  asked = λ u asked. inl asked;
  recorded = λ u r. inl (to_records M u r);
  clean = λ before line behind n u is says decided. lost_so (λ x. ⊥) (numbered e bs) before line behind n u (all_quiet e bs quiet) is says;
  node = λ a is. still_names M (said e bs M) a a (core.node a is) (omega arith) (λ u on. on) (λ p i. i)
      (λ u has done asked. (has, was_done u done, asked)) (λ u y. y) (λ t n up_it named. (t, n, up_it, named, same_memory n, refl));
})
  where
    was_done : (u : Uid) → IsDone (said e bs M) u → IsDone M u
    was_done u (inl on) = inl (undecided M.lines (numbered e bs) (all_undeciding (λ x. ⊥) (numbered e bs) (all_quiet e bs quiet)) u on)
    was_done u (inr r) = inr r

-- ---- an action begins

module _ (k : ℕ) (d : Disk) (t : Parts) (M : Seen) (core : IsConfirming (up k d t M)) (e : ℕ) (l : Label) (how : Kind)
    (parent : Option Label) (labels : List (Label × world.Labelled)) where
  abbrev v : Parts
  v = with_coord t (begin_action l how parent (parent_of parent t.coord) t.coord).part

  abbrev Begun : Seen
  Begun = up k d (with_coord t (begin_action l how parent (parent_of parent t.coord) t.coord).part)
      (said e (body.Began l how (next_uid t.coord.tree) parent ∷ []) (record M { labels = labels }))

  abbrev Same : Disk → Option Parts → Type 0
  Same c live = (c ≡ d) × (live ≡ Some (with_coord t (begin_action l how parent (parent_of parent t.coord) t.coord).part))

  abbrev began : Went k M (IsCalmBut (λ u. ⊥)) (λ p. ⊥) Same Begun
  began = record {
    more = record { event = e; body = body.Began l how (next_uid t.coord.tree) parent } ∷ [];
    lines = refl;
    said_so = (tt, tt);
    back = λ p i. inl i;
    on = λ p i. i;
    others = λ j other. (λ i. cond (other i) (Some (the_node k d (Some v))) (M.nodes j));
    disk = d;
    live = Some v;
    here = here_is k d (Some v) M;
    fits = (refl, refl);
  }

  begun_confirms : IsConfirming Begun
  begun_confirms = mute_confirms k d (Some t) M (λ p. ⊥) Same Begun began (λ p so. absurd so) (λ x j is. is) (λ x j is. inl is)
      (omega arith) (λ u on. on)
      (λ s n up_it named. let one : v ≡ s = some_is up_it in (
        t,
        n,
        refl,
        ap (λ (z : Parts). z.naming) one ∙ named,
        same_memory n,
        ap (λ (z : Parts). let c = z.coord in let q = c.tree in q.inc) (sym one),
      )) core

-- ---- a message

message_naming : (k : ℕ) (d : Disk) (t v : Parts) (from : ℕ) (m : Message) (outs : List Effect) (M : Seen) (right : IsNaming (up k d t M)) →
    In (record { from = from; to = k; message = m }) M.sent → (e : ℕ) → NamesCase k d t from m v outs →
    Walks AllKnown e k outs (Up AllKnown k v) d M → Walks IsNaming e k outs (Up IsNaming k v) d M
message_naming k d t v from m outs M right there e (Aside same stays all) known =
    aside_walk k d t v M e right.1 (part_memory t v same stays) outs all known
message_naming k d t v from m outs M right there e (Confirms h grants excluded included n x asking named v_is said_it are) known =
    confirm_walk k d t M right from m there e h grants excluded included n asking named v x outs v_is said_it are known
message_naming k d t v from m outs M right there e (Tells u how ack lines last same moved own are) known = by t.naming refl moved are
  where
    by : (o : Option Naming) → t.naming ≡ o → v.naming ≡ (naming_told u how d.names o).part → outs ≡ ((store_told k u how d.store
        ++ (naming_told u how d.names o).outs) ++ lines) ++ ack_told from u ack → Walks IsNaming e k outs (Up IsNaming k v) d M
    by None none its z =
        let y : outs ≡ (store_told k u how d.store ++ lines) ++ ack_told from u ack = z
        ∙ ap (λ es. (es ++ lines) ++ ack_told from u ack) (nothing_more (store_told k u how d.store)) in
        subst (λ es. Walks IsNaming e k es (Up IsNaming k v) d M) (sym y) (apart_told k d t M right from m there e u how last v same ack
        lines own none (subst (λ es. Walks AllKnown e k es (Up AllKnown k v) d M) y known))
    by (Some n) named its z = subst (λ es. Walks IsNaming e k es (Up IsNaming k v) d M) (sym z) (naming_walk k d t M right from m there e u
        how last n named v same its ack lines own (subst (λ es. Walks AllKnown e k es (Up AllKnown k v) d M) z known))
message_naming k d t v from m outs M right there e (Asks u same is are) known =
    subst (λ x. Walks IsNaming e k outs (Up IsNaming k x) d M) (sym same)
    (subst (λ es. Walks IsNaming e k es (Up IsNaming k t) d M) (sym are)
    (query_walk k d t M e from u right.1 (subst (λ x. Walks AllKnown e k (answer_query from u d.intents t.coord) (Up AllKnown k x) d M) same
    (subst (λ es. Walks AllKnown e k es (Up AllKnown k v) d M) are known))))
message_naming k d t v from m outs M right there e (Hears a r of is are) known =
    let z = heard from a r d.intents t.coord in
    subst (λ x. Walks IsNaming e k outs (Up IsNaming k x) d M) (sym is)
    (subst (λ es. Walks IsNaming e k es (Up IsNaming k (with_coord t z.part)) d M) (sym are)
    (heard_naming k d t M right e from m there a r of (subst (λ x. Walks AllKnown e k z.outs (Up AllKnown k x) d M) is
    (subst (λ es. Walks AllKnown e k es (Up AllKnown k v) d M) are known))))
message_naming k d t v from m outs M right there e (Acks u is part are) known =
    acked_naming k d t M right e from u
    (record { post = record { from = from; to = k; message = m }; posted = there; from = refl; acks = ap acked_in is }) v outs
    (ap (λ (x : Parts). x.naming) part) (ap (λ (x : Parts). x.coord) part) are known

-- ---- at first

first_confirms : (hd : Header) → IsAtStarts hd IsConfirming
first_confirms hd st formed = record {
  recorded = λ u asked done. absurd (let c = asked.0 in c.posted);
  said = λ u asked done. absurd (let c = asked.0 in c.posted);
  lines = λ before line behind n u is says decided. no_lines before line behind is;
  node = λ a is. subst (IsNamesNode (see [] (world_from hd st))) (first_at hd st 1 a is) first_node_so;
}
  where
    no_lines : (before : List Line) (line : Line) (behind : List Line) → [] ≡ before ++ line ∷ behind → ⊥
    no_lines [] line behind is = cc is
    no_lines (x ∷ before) line behind is = cc is

    start_parts : Parts
    start_parts = parts_in 1 (st.incs 1 + 1) (disk_by hd st 1)

    first_node_so : IsNamesNode (see [] (world_from hd st)) (node_by hd st 1)
    first_node_so = record {
      held = λ u on. absurd (cc on);
      yeses = λ u y. absurd y.1;
      acked = λ u has done asked. absurd (let z = has in z.posted);
      live = λ t n up_it named. let one : start_parts ≡ t = live_first hd st 1 t up_it in
          subst (λ z. IsNamer (see [] (world_from hd st)) z n) one (fresh n (ap (λ (z : Parts). z.naming) one ∙ named));
    }
      where
        fresh : (n : Naming) → (let t = start_parts in t.naming) ≡ Some n → IsNamer (see [] (world_from hd st)) start_parts n
        fresh n named = subst (IsNamer (see [] (world_from hd st)) start_parts) (some_is named) (record {
          inc = refl;
          confirmed = λ u on. absurd (cc on);
          acked = λ u has done asked. absurd (let z = has in z.posted);
        })

-- ---- all handlers

pub naming_keep : (hd : Header) → Keeps hd IsNaming
naming_keep hd = record {
  quiet = λ e bs M quiet right. (its.quiet e bs M quiet right.0, quiet_confirms e bs M quiet right.1);
  stop = λ e k d live M right. (its.stop e k d live M right.0, stop_confirms k d live M right.1 e);
  message = λ e k d t v from m outs M right there meant is. message_naming k d t v from m outs M right there e
      (names_case k d t from m v outs is) (its.message e k d t v from m outs M right.0 there meant is);
  act = λ e k d t i M is free right. act_naming k d t M right e hd i is free (its.act e k d t i M is free right.0);
  begin = λ e k d t l how parent M new may free right. (
    its.begin e k d t l how parent M new may free right.0,
    begun_confirms k d t M right.1 e l how parent (let G = given l (record { node = k; serial = is_serial how }) M in G.labels),
  );
  tick = λ e k d t M right. tick_naming k d t M right e (its.tick e k d t M right.0);
  restart = λ e k d M right. restart_naming hd k d M right e (its.restart e k d M right.0);
  first = λ st formed. (its.first st formed, first_confirms hd st formed);
}
  where
    its : Keeps hd AllKnown
    its = all_keep hd

pub naming_run : (hd : Header) (r : Run hd) → Holds hd IsNaming (world_by hd r)
naming_run hd r = moves_asked hd IsNaming (keeps_asked hd IsNaming (naming_keep hd)) r
