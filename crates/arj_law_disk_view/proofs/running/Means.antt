-- Who prepares something was begun, and who is asked about, in the effects of each part.
use Rattle.arj_law_parts.proofs.Words
use Words.{◌≡◌, ℕ, ◌||◌, List, [], ◌∷◌, ◌++◌, Bool, true, false, Option, Some, None, refl, sym, subst, map, if◌then◌else◌, not}
use Words.{AllByRecursion, flat_map, list_all, and_parts, Uid, Asked, ConfirmedReply, End, Message, ObjectState, Path, Row, is_on, last_uid}
use Words.{Reply, response, top_of, Grants, Marks, back_lines, checked, confirm, confirm_entries, confirm_new, confirms, entries_after}
use Words.{has_all, lock_all, prepared_by, wanted, Coord, Effect, Pair, Say, Send, Do, Look, PutInc, Prepare, Commit, Abort, PutIntent}
use Words.{RemoveIntent, Intent, Prep, Ready, Already, Old, InDoubt, did_nothing, is_prepared, prepare_answer, reply, void, tell_all, Named}
use Words.{Naming, end_entries, end_lines, end_orphans, has_locks, is_over, orphans, own_entries, taken_end, told_new, query_about, AreAll}
use Words.{is_coord_effect, is_server_effect, hello_to, naming_back, recovered_records, tolds_again}
use Words.body
use Words.confirmed
use Words.ending
use Words.message
use Words.part
use Words.role
use Words.naming
use Rattle.arj_law_disk_view.proofs.Terms.{Action, IsAboutBegun, IsBegun, MeansBegun, asked_about, AreOwnIn, IsOwnVote, voted_of}
use Rattle.arj_law_disk_view.proofs.{running.Lists.all_append, view.ConfirmWalks.locks_say, view.HeardWalks.is_say}
use Rattle.arj_law_parts.specs.parts.Claims.{AreTrue, is_of_coord}

-- no request, and no end that is told, asks about anybody, or votes
unasked : (m : Message) → is_of_coord m ≡ true → (asked_about m ≡ None) × IsOwnVote m
unasked (message.Query m) is = let no_way : false ≡ true = is in cc
unasked (message.Voted m) is = let no_way : false ≡ true = is in cc
unasked (message.Told m) is = (refl, tt)
unasked (message.Acked m) is = (refl, tt)
unasked (message.Hello m) is = (refl, tt)
unasked (message.Bind m) is = (refl, tt)
unasked (message.Bound m) is = (refl, tt)
unasked (message.Load m) is = (refl, tt)
unasked (message.Loaded m) is = (refl, tt)
unasked (message.Activate m) is = (refl, tt)
unasked (message.Activated m) is = (refl, tt)
unasked (message.RecordMsg m) is = (refl, tt)
unasked (message.Recorded m) is = (refl, tt)
unasked (message.Invoke m) is = (refl, tt)
unasked (message.Invoked m) is = (refl, tt)
unasked (message.Vote m) is = (refl, tt)
unasked (message.Prepare m) is = (refl, tt)
unasked (message.Prepared m) is = (refl, tt)
unasked (message.Confirm m) is = (refl, tt)
unasked (message.Confirmed m) is = (refl, tt)

-- an answer that votes has states of their own objects
abbrev pub IsOwnReply : Uid → Option Reply → Type 0
IsOwnReply top None = Unit {0}
IsOwnReply top (Some r) = AreOwnIn top (voted_of r)

module _ (acts : List Action) where
  abbrev pub All : List Effect → Type 0
  All es = AllByRecursion (MeansBegun acts) es

  pub both : (es fs : List Effect) → All es → All fs → All (es ++ fs)
  both es fs a b = all_append (MeansBegun acts) es fs a b

  -- a coordinator prepares nothing, and sends requests and ends
  asks_of : (to : ℕ) (m : Message) → is_of_coord m ≡ true → MeansBegun acts (Send to m)
  asks_of to m is = let none = unasked m is in (subst (IsAboutBegun acts to) (sym none.0) tt, none.1)

  pub coord_means : (c : Coord) (es : List Effect) → AreTrue c es → AreAll is_coord_effect es → All es
  coord_means c [] its own = tt
  coord_means c (Say b ∷ es) its own =
      (tt, coord_means c es its.1 (and_parts (is_coord_effect (Say b)) (list_all is_coord_effect es) own).1)
  coord_means c (Send to m ∷ es) its own = (asks_of to m its.0.plain, coord_means c es its.1 own)
  coord_means c (Do (PutIntent u i) ∷ es) its own = (tt, coord_means c es its.1 own)
  coord_means c (Do (RemoveIntent u) ∷ es) its own = (tt, coord_means c es its.1 own)
  coord_means c (Do Look ∷ es) its own = absurd (cc own)
  coord_means c (Do (PutInc i) ∷ es) its own = absurd (cc own)
  coord_means c (Do (Prepare r u states) ∷ es) its own = absurd (cc own)
  coord_means c (Do (Commit r u) ∷ es) its own = absurd (cc own)
  coord_means c (Do (Abort r u) ∷ es) its own = absurd (cc own)

  -- what is told again
  tells_mean : (root : Uid) (ack : Bool) (ends : List (Uid × End)) (ns : List ℕ) → All (tell_all root ack ends ns)
  tells_mean root ack ends [] = tt
  tells_mean root ack ends (n ∷ ns) = ((tt, tt), tells_mean root ack ends ns)

  pub again_means : (telling : List (Uid × Intent)) → All (tolds_again telling)
  again_means [] = tt
  again_means (e ∷ es) = let i = e.1 in both (tell_all i.root true ((e.0, ending.Commit) ∷ []) i.nodes) (tolds_again es)
      (tells_mean i.root true ((e.0, ending.Commit) ∷ []) i.nodes) (again_means es)

  pub response_means : (to : ℕ) (a : Asked) (r : Reply) → AreOwnIn a.act (voted_of r) → MeansBegun acts (Send to (response a r))
  response_means to a (Reply.Bound r) own = (tt, tt)
  response_means to a (Reply.Loaded r) own = (tt, tt)
  response_means to a (Reply.Activated i) own = (tt, tt)
  response_means to a (Reply.Noted r) own = (tt, tt)
  response_means to a (Reply.Invoked r) own = (tt, tt)
  response_means to a (Reply.Voted r) own = (tt, own)
  response_means to a (Reply.Prepared r) own = (tt, tt)
  response_means to a (Reply.Confirmed r) own = (tt, tt)

  pub says_mean : (es : List Effect) → AreAll is_say es → AllByRecursion (MeansBegun acts) es
  says_mean [] own = tt
  says_mean (Say b ∷ es) own = (tt, says_mean es own)
  says_mean (Send to m ∷ es) own = absurd (cc own)
  says_mean (Do w ∷ es) own = absurd (cc own)

  pub server_means : (n : ℕ) (es : List Effect) → AreAll (is_server_effect n) es → AllByRecursion (MeansBegun acts) es
  server_means n [] own = tt
  server_means n (Say b ∷ es) own =
      (tt, server_means n es (and_parts (is_server_effect n (Say b)) (list_all (is_server_effect n) es) own).1)
  server_means n (Send to m ∷ es) own = absurd (cc own)
  server_means n (Do w ∷ es) own = absurd (cc own)

  -- questions about actions that were begun
  pub queries_mean : (us : List Uid) → AllByRecursion (IsBegun acts) us → All (map query_about us)
  queries_mean [] all = tt
  queries_mean (u ∷ us) all = (((refl, all.0), tt), queries_mean us all.1)

  -- ---- naming

  ends_entries : (u : Uid) (how : End) → All (end_entries u how)
  ends_entries u ending.Commit = (tt, (tt, tt))
  ends_entries u ending.Abort = (tt, (tt, tt))

  pub told_means : (u : Uid) (how : End) (d : Pair) (n : Naming) → All (naming.told u how d n).outs
  told_means u how d n = both (own_entries u how d) (let t = (if is_on n.told u then did_nothing n else told_new u (taken_end u how n) d
      n) in t.outs) (own (is_prepared u d)) (by (is_on n.told u))
    where
      own : (b : Bool) → All (if b then end_entries u how else [])
      own true = ends_entries u how
      own false = tt

      all_ends : (us : List Uid) → All (flat_map (λ act. end_entries act ending.Abort) us)
      all_ends [] = tt
      all_ends (w ∷ ws) =
          both (end_entries w ending.Abort) (flat_map (λ act. end_entries act ending.Abort) ws) (ends_entries w ending.Abort) (all_ends ws)

      orphan : (e : End) → All (end_orphans u e d n)
      orphan ending.Commit = tt
      orphan ending.Abort = all_ends (orphans u d n)

      lines : (e : End) (b : Bool) → All (if b then Say (body.Told 1 u e part.Naming) ∷ [] else [])
      lines e true = (tt, tt)
      lines e false = tt

      by : (b : Bool) → All (let t = (if b then did_nothing n else told_new u (taken_end u how n) d n) in t.outs)
      by true = tt
      by false = both (end_orphans u (taken_end u how n) d n) (end_lines u (taken_end u how n) n) (orphan (taken_end u how n))
          (lines (taken_end u how n) (has_locks u n))

  pub confirm_means : (p : Path) (grants : Grants) (excluded included : Marks) (d : Pair) (n : Naming) → IsBegun acts (top_of p) →
      All (confirm p grants excluded included d n).outs
  confirm_means p grants excluded included d n begun =
      by (is_over p n || not (has_all grants n)) (is_on n.confirmed (top_of p) || is_prepared (top_of p) d)
    where
      locks : All (let l = lock_all (wanted (top_of p) grants excluded d) p n in l.outs)
      locks = says_mean (lock_all (wanted (top_of p) grants excluded d) p n).outs (locks_say (wanted (top_of p) grants excluded d) p n)

      answered : (ss : List ObjectState) (a : Prep) →
          All (prepared_by (top_of p) ss (lock_all (wanted (top_of p) grants excluded d) p n) a).outs
      answered ss Ready = both (lock_all (wanted (top_of p) grants excluded d) p n).outs
          (Do Look ∷ Do (Prepare role.Names (top_of p) ss) ∷ Say (body.Prepared 1 (top_of p) role.Names) ∷ []) locks (tt, (begun, (tt, tt)))
      answered ss (Already u) = both (lock_all (wanted (top_of p) grants excluded d) p n).outs (Do Look ∷ []) locks (tt, tt)
      answered ss (Old u v) = both (lock_all (wanted (top_of p) grants excluded d) p n).outs (Do Look ∷ []) locks (tt, tt)
      answered ss (InDoubt u h) = both (lock_all (wanted (top_of p) grants excluded d) p n).outs (Do Look ∷ []) locks (tt, tt)

      entries : (ss : List ObjectState) → All (confirm_entries (top_of p) ss d (lock_all (wanted (top_of p) grants excluded d) p n)).outs
      entries [] = locks
      entries (s ∷ ss) = answered (s ∷ ss) (prepare_answer (top_of p) (s ∷ ss) d)

      anew : (o : Option ConfirmedReply) → All (confirm_new p grants excluded included d n o).outs
      anew (Some r) = tt
      anew None = entries (entries_after (top_of p) grants excluded included d)

      by : (a b : Bool) → All (if a then void n else (if b then reply (confirms (top_of p) n) confirmed.Yes else confirm_new p grants
          excluded included d n (checked p grants excluded included d n))).outs
      by true b = tt
      by false true = tt
      by false false = anew (checked p grants excluded included d n)

  -- ---- a restart

  pub recovered_means : (k : ℕ) (intents : List (Uid × Intent)) → All (recovered_records k intents)
  recovered_means k [] = tt
  recovered_means k (e ∷ es) = (tt, recovered_means k es)

  pub hellos_mean : (k inc : ℕ) (ns : List ℕ) → All (map (hello_to k inc) ns)
  hellos_mean k inc [] = tt
  hellos_mean k inc (n ∷ ns) = ((tt, tt), hellos_mean k inc ns)

  pub back_means : (o : Option Naming) → All (naming_back o)
  back_means None = tt
  back_means (Some o) = all o.objects
    where
      rows : (rs : List Row) → All (map (λ (r : Row). Say (body.Granted 1 (last_uid r.holder) r.object r.mode)) rs)
      rows [] = tt
      rows (r ∷ rs) = (tt, rows rs)

      all : (es : List (ℕ × Named)) → All (flat_map (λ (e : ℕ × Named). back_lines e.1) es)
      all [] = tt
      all (e ∷ es) = both (back_lines e.1) (flat_map (λ (z : ℕ × Named). back_lines z.1) es) (rows (let o = e.1 in o.rows)) (all es)
