-- A node's effects, walked through one by one, leave all that holds of nodes and messages.
use Rattle.arj_law_parts.proofs.Words
use Words.{⊤, AllByRecursion, and_parts, ◌≡◌, ◌≤◌, ◌==◌, arith, ℕ, List, [], ◌∷◌, Bool, true, false, cond, Option, Some, None, refl, sym}
use Words.{◌∙◌, ap, subst, inr, ⊎_elim, eqb-true, Contains, in_from, in_to, put_uid, without_uid, Uid, Body, Label, Message, End, Disk}
use Words.{Effect, Say, Send, Do, Work, Stop, worked, stopped, Look, PutInc, Prepare, Commit, Abort, PutIntent, RemoveIntent, Parts, Node}
use Words.{is_own, Tree, Branch, branch_of, Labelled, Post, Seen}
use Words.role
use Words.ending
use Rattle.arj_law_runs.proofs.Terms
use Terms.{AllSayEnds, AreOfCommits, IsSaidSo, brought, Action, AreBegun, AreCounted, IsSettled, AreOfNode, SaysInc, KeepsInc, AreOfInc}
use Terms.{IsClaimsOf, AllFit, FitsMessage, Seals, IsDecided, put_in, found_by, worked_inc, stopped_inc, without_in, IsGoodDisk, IsUp}
use Terms.{IsMemory, IsGoodPlace, IsSettledIn, IsSo, IsGoodWorld, IsGoodOf, IsSaidIn, In, said, posted, Walks, Up, halted}
use Rattle.arj_law_parts.proofs.parts
use parts.{EndsSaid.said_so, Tellings.worked_tops, Tellings.stopped_tops, TrueSteps.worked_home, TrueSteps.stopped_home}
use Rattle.arj_law_parts.specs.parts.{Claims.IsOwnRecord, Ends.IsOfCommit, Messages.FitsWork}
use Rattle.arj_law_runs.specs.kept.Worlds.{AreCommittedIn}

pub same_number : (n : ℕ) → (n == n) ≡ true
same_number n = grind arith

pub other_number : (j k : ℕ) → (j ≡ k → ⊥) → (j == k) ≡ false
other_number j k other = by (j == k) refl
  where
    by : (b : Bool) → (j == k) ≡ b → b ≡ false
    by true is = absurd (other (eqb-true j k is))
    by false is = refl

-- ---- more messages

up_more : (acts : List Action) (q : Post) (sent : List Post) (given : List (Label × Labelled)) (k i : ℕ) (t : Parts) →
    IsUp acts sent given k i t → IsUp acts (q ∷ sent) given k i t
up_more acts q sent given k i t u = record {
  good = u.good;
  node = u.node;
  inc = u.inc;
  server = u.server;
  faithful = u.faithful;
  counted = u.counted;
  known = u.known;
  voted = λ w is. let v = u.voted w is in (v.0, inr v.1, v.2);
  sure = u.sure;
  numbered = u.numbered;
  objects = u.objects;
}

place_more : (acts : List Action) (q : Post) (sent : List Post) (given : List (Label × Labelled)) (k : ℕ) (n : Node) →
    IsGoodPlace acts sent given k n → IsGoodPlace acts (q ∷ sent) given k n
place_more acts q sent given k n p = record { disk = p.disk; memory = by n.live p.memory; records = p.records }
  where
    by : (o : Option Parts) → IsMemory acts sent given k n.disk.inc o → IsMemory acts (q ∷ sent) given k n.disk.inc o
    by None m = m
    by (Some t) m = up_more acts q sent given k n.disk.inc t m

-- ---- records on disk

-- work leaves records of committed actions, where what it writes is one
commits_worked : (w : Work) (d : Disk) (t : Tree) → IsOfCommit t w → AreOfCommits d.intents t → AreOfCommits (worked w d).intents t
commits_worked Look d t its all = all
commits_worked (PutInc i) d t its all = all
commits_worked (Prepare role.Store u states) d t its all = all
commits_worked (Prepare role.Names u states) d t its all = all
commits_worked (Commit role.Store u) d t its all = all
commits_worked (Commit role.Names u) d t its all = all
commits_worked (Abort role.Store u) d t its all = all
commits_worked (Abort role.Names u) d t its all = all
commits_worked (PutIntent u i) d t its all = λ w j k own. ⊎_elim (λ same. subst (λ x. IsDecided x ending.Commit t) (sym same) its)
    (λ old. all w old.0 (in_to (w, old.0) d.intents old.1) own) (put_in u i w j d.intents (in_from (w, j) (put_uid u i d.intents) k))
commits_worked (RemoveIntent u) d t its all =
    λ w j k own. all w j (in_to (w, j) d.intents (without_in u (w, j) d.intents (in_from (w, j) (without_uid u d.intents) k))) own

-- ---- one node apart from the others

-- what a message of node k says is so of it, where it goes on with this coordinator
pub record IsMine (k i : ℕ) (v : Parts) (m : Message) : Type 0 where
  pub inc : SaysInc k i m
  pub node : (u : Uid) → Seals m u → u.node ≡ k
  pub seals : (u : Uid) → Seals m u → (u.inc ≤ i) × (is_own u v.coord.tree ≡ true → IsSettled u v.coord)
  pub past : (u : Uid) (e : End) → Contains (brought m) (u, e) → u.inc ≤ i
  pub said : IsSaidSo v.coord.tree m

-- What holds of all nodes but node k, and of the messages; those of node k are so of these parts.
pub record Others (acts : List Action) (k i : ℕ) (v : Parts) (M : Seen) : Type 0 where
  pub begun : AreBegun acts
  pub places : (j : ℕ) (n : Node) → (j ≡ k → ⊥) → M.nodes j ≡ Some n → IsGoodPlace acts M.sent M.labels j n
  pub fits : (p : Post) → In p M.sent → FitsMessage acts p.message
  pub senders : (p : Post) (u : Uid) → In p M.sent → Seals p.message u → u.node ≡ p.from
  pub so : (p : Post) (n : Node) → In p M.sent → (p.from ≡ k → ⊥) → M.nodes p.from ≡ Some n → IsSo p n
  pub mine : (p : Post) → In p M.sent → p.from ≡ k → IsMine k i v p.message

module _ (acts : List Action) (k i : ℕ) (v : Parts) where
  -- lines are nothing to it
  pub others_said : (e : ℕ) (bs : List Body) (M : Seen) → Others acts k i v M → Others acts k i v (said e bs M)
  others_said e bs M o = record { begun = o.begun; places = o.places; fits = o.fits; senders = o.senders; so = o.so; mine = o.mine }

  -- one message more
  others_posted : (to : ℕ) (m : Message) (M : Seen) → FitsMessage acts m → IsMine k i v m → Others acts k i v M →
      Others acts k i v (posted (record { from = k; to = to; message = m }) M)
  others_posted to m M fits mine o = record {
    begun = o.begun;
    places = λ j n other is. place_more acts q M.sent M.labels j n (o.places j n other is);
    fits = λ p there. ⊎_elim (λ same. subst (λ (x : Post). FitsMessage acts x.message) same fits) (λ old. o.fits p old) there;
    senders = λ p u there s. ⊎_elim (λ same. subst (λ (x : Post). Seals x.message u → u.node ≡ x.from) same (λ f. mine.node u f) s)
        (λ old. o.senders p u old s) there;
    so = λ p n there other is. ⊎_elim (λ same. absurd (other (sym (ap (λ (x : Post). x.from) same)))) (λ old. o.so p n old other is) there;
    mine = λ p there its. ⊎_elim (λ same. subst (λ (x : Post). IsMine k i v x.message) same mine) (λ old. o.mine p old its) there;
  }
    where
      q : Post
      q = record { from = k; to = to; message = m }

  -- the node back among the others, down or with these parts
  whole : (M : Seen) (d : Disk) (o : Option Parts) → Others acts k i v M → IsGoodDisk acts k d → d.inc ≡ i →
      IsMemory acts M.sent M.labels k i o → AreCommittedIn d.intents o → ((u : Uid) → (is_own u v.coord.tree ≡ true → IsSettled u v.coord) →
      IsSettledIn u o) → ((m : Message) → IsSaidSo v.coord.tree m → IsSaidIn m o)
      → IsGoodWorld acts M.sent M.labels (λ m. cond (m == k) (Some (record { number = k; disk = d; live = o })) (M.nodes m))
  whole M d o others disk inc memory records settled said_in = record {
    begun = others.begun;
    places = λ j n is. place j n (j == k) refl is;
    fits = others.fits;
    senders = others.senders;
    so = λ p n there is. its p n there (p.from == k) refl is;
  }
    where
      x : Node
      x = record { number = k; disk = d; live = o }

      place : (j : ℕ) (n : Node) (b : Bool) → (j == k) ≡ b → cond b (Some x) (M.nodes j) ≡ Some n → IsGoodPlace acts M.sent M.labels j n
      place j n true at is = let same : x ≡ n = cc in
          subst (IsGoodPlace acts M.sent M.labels j) same (subst (λ h. IsGoodPlace acts M.sent M.labels h x) (sym (eqb-true j k at))
          (record { disk = disk; memory = subst (λ h. IsMemory acts M.sent M.labels k h o) (sym inc) memory; records = records }))
      place j n false at is =
          others.places j n (λ same. let no_way : true ≡ false = sym (same_number k) ∙ ap (λ h. h == k) (sym same) ∙ at in cc) is

      its : (p : Post) (n : Node) → In p M.sent → (b : Bool) → (p.from == k) ≡ b → cond b (Some x) (M.nodes p.from) ≡ Some n → IsSo p n
      its p n there true at is =
          let same : x ≡ n = cc in
          let from : p.from ≡ k = eqb-true p.from k at in
          let m = others.mine p there from in
          subst (IsSo p) same (record {
            inc = subst (λ h. SaysInc p.from h p.message) (sym inc) (subst (λ f. SaysInc f i p.message) (sym from) m.inc);
            seals = λ u s. let q = m.seals u s in (subst (λ h. u.inc ≤ h) (sym inc) q.0, settled u q.1);
            past = λ u e c. subst (λ h. u.inc ≤ h) (sym inc) (m.past u e c);
            said = said_in p.message m.said;
          })
      its p n there false at is =
          others.so p n there (λ same. let no_way : true ≡ false = sym (same_number k) ∙ ap (λ h. h == k) (sym same) ∙ at in cc) is

  -- an effect of the node: a message that fits and is so, or work that leaves its records its own
  abbrev pub IsKept : Effect → Type 0
  IsKept (Say b) = ⊤
  IsKept (Do w) = FitsWork acts w × IsOwnRecord k i w × KeepsInc i w × IsOfCommit v.coord.tree w
  IsKept (Send to m) = FitsMessage acts m × IsMine k i v m

  abbrev pub AreKept : List Effect → Type 0
  AreKept outs = AllByRecursion IsKept outs

  disk_worked : (w : Work) (d : Disk) → IsKept (Do w) → d.inc ≡ i → IsGoodDisk acts k d → IsGoodDisk acts k (worked w d)
  disk_worked w d kept inc disk = record {
    tops = worked_tops acts w d kept.0 disk.tops;
    own = subst (λ h. AreOfNode k h (worked w d).intents) (sym (worked_inc i w d kept.2 inc))
        (worked_home k i w d kept.1 (subst (λ h. AreOfNode k h d.intents) inc disk.own));
  }

  disk_stopped : (how : Stop) (w : Work) (d : Disk) → IsKept (Do w) → d.inc ≡ i → IsGoodDisk acts k d → IsGoodDisk acts k (stopped how w d)
  disk_stopped how w d kept inc disk = record {
    tops = stopped_tops acts how w d kept.0 disk.tops;
    own = subst (λ h. AreOfNode k h (stopped how w d).intents) (sym (stopped_inc i how w d kept.2 inc))
        (stopped_home k i how w d kept.1 (subst (λ h. AreOfNode k h d.intents) inc disk.own));
  }

  pub down_good : (count : ℕ) → AreCounted k i count acts → (e : ℕ) (d : Disk) (M : Seen) → Others acts k i v M → IsGoodDisk acts k d →
      d.inc ≡ i → IsGoodOf acts (halted e k d M)
  down_good count counted e d M others disk inc = whole M d None others disk inc (count, counted) tt (λ u s. tt) (λ m s. tt)

  pub up_good : (d : Disk) (M : Seen) → Others acts k i v M → IsGoodDisk acts k d → d.inc ≡ i → IsUp acts M.sent M.labels k i v →
      AreOfCommits d.intents v.coord.tree → Up (IsGoodOf acts) k v d M
  up_good d M others disk inc up records = whole M d (Some v) others disk inc up records (λ u s. s) (λ m s. s)

  pub walked : (count : ℕ) → AreCounted k i count acts → (e : ℕ) (outs : List Effect) (d : Disk) (M : Seen) → AreKept outs →
      Others acts k i v M → IsGoodDisk acts k d → d.inc ≡ i → IsUp acts M.sent M.labels k i v → AreOfCommits d.intents v.coord.tree →
      Walks (IsGoodOf acts) e k outs (Up (IsGoodOf acts) k v) d M
  walked count counted e [] d M kept others disk inc up records = up_good d M others disk inc up records
  walked count counted e (Do w ∷ es) d M kept others disk inc up records = (
    λ how. down_good count counted e (stopped how w d) M others (disk_stopped how w d kept.0 inc disk) (stopped_inc i how w d kept.0.2 inc),
    walked count counted e es (worked w d) M kept.1 others (disk_worked w d kept.0 inc disk) (worked_inc i w d kept.0.2 inc) up
        (commits_worked w d v.coord.tree kept.0.3 records),
  )
  walked count counted e (Say b ∷ es) d M kept others disk inc up records =
      walked count counted e es d (said e (b ∷ []) M) kept.1 (others_said e (b ∷ []) M others) disk inc up records
  walked count counted e (Send to m ∷ es) d M kept others disk inc up records = λ more quiet.
      let q : Post = record { from = k; to = to; message = m } in
      walked count counted e es d (said e more (posted q M)) kept.1 (others_said e more (posted q M)
      (others_posted to m M kept.0.0 kept.0.1 others)) disk inc (up_more acts q M.sent M.labels k i v up) records

  -- a branch is of the coordinator's incarnation
  inc_of : v.coord.tree.inc ≡ i → (u : Uid) (b : Branch) → branch_of u v.coord.tree ≡ Some b → u.inc ≤ i
  inc_of inc u b found = let same : u.inc ≡ v.coord.tree.inc = eqb-true u.inc v.coord.tree.inc (and_parts (u.node == v.coord.tree.node)
      (u.inc == v.coord.tree.inc) (found_by u v.coord.tree b found).0).1 in omega (arith, same, inc)

  -- what fits, and is claimed by the node's coordinator in its incarnation, is kept
  pub are_kept : v.coord.tree.node ≡ k → v.coord.tree.inc ≡ i → (outs : List Effect) → AllFit acts outs →
      AllByRecursion (IsClaimsOf v.coord) outs → AreOfInc k i outs → AllSayEnds v.coord.tree outs → AreKept outs
  are_kept node inc [] fit claims incs says = tt
  are_kept node inc (Say b ∷ es) fit claims incs says = (tt, are_kept node inc es fit.1 claims.1 incs.1 says.1)
  are_kept node inc (Do w ∷ es) fit claims incs says = (
    (fit.0, subst (λ h. IsOwnRecord k h w) inc (subst (λ n. IsOwnRecord n v.coord.tree.inc w) node claims.0), incs.0, says.0),
    are_kept node inc es fit.1 claims.1 incs.1 says.1,
  )
  are_kept node inc (Send to m ∷ es) fit claims incs says = (
    (
      fit.0,
      record {
        inc = incs.0;
        node = λ u s. (claims.0 u s).0 ∙ node;
        seals = λ u s. let c = claims.0 u s in (subst (λ h. u.inc ≤ h) inc c.2, c.1);
        past = λ u x c. let b = says.0.brings u x c in inc_of inc u b.0 b.1;
        said = said_so v.coord.tree m says.0;
      },
    ),
    are_kept node inc es fit.1 claims.1 incs.1 says.1,
  )
