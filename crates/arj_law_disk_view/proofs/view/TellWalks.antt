-- Who is told of an end that is no decision, walked through at its coordinator.
use Rattle.arj_law_parts.proofs.Words
use Words.{◌≡◌, ℕ, List, [], ◌∷◌, ◌++◌, Bool, true, false, Option, Some, None, refl, sym, ◌∙◌, ap, subst, inl, inr, ⊤, if◌then◌else◌, not}
use Words.{filter, flat_map, AllByRecursion, Uid, End, Kind, Path, Body, last_end, Coord, root_at, nodes_sent, servers_told, Disk, Effect}
use Words.{tell_all, up_to, tolds_by, tolds_of, tolds_of_branch, is_deferred, Parts, with_coord, uid_number, Branch, branch_of, root_of}
use Words.{ends_of, numbered, Post, Seen}
use Words.ending
use Words.kind
use Words.message
use Rattle.arj_law_disk_view.proofs.Terms
use Terms.{World, after, Meaning, IsOver, State, lists, not_true, up, said, posted, Walks, Up, Kinds, SeesDisks, IsSeenByDisks, IsNested}
use Terms.{ClaimsLast}
use Terms.machine
use Terms.mail
use Rattle.arj_law_disk_view.proofs.view.Frames.{says_seen, posts_seen, sends_seen}

-- the end is of a nested action
abbrev pub EndsNoTop : Kinds → Option (Uid × End) → Type 0
EndsNoTop tops None = ⊤
EndsNoTop tops (Some e) = IsNested tops (uid_number e.0)

-- a serializing action is over, but for the nodes that a record of a constituent lists
pub record SerialOver (S : State) (r : Uid) (deferred : ℕ → Bool) : Type 0 where
  pub serial : S.serial (uid_number r) ≡ true
  pub over : IsOver S (uid_number r)
  pub unlisted : (n : ℕ) → deferred n ≡ false → (z : ℕ) → S.root z ≡ uid_number r → lists S z n ≡ false

-- what may be told of an end, by the action's kind
abbrev pub MayTell : Kinds → Disk → Coord → State → Uid → Kind → Path → Type 0
MayTell tops d C S u kind.Nested p = EndsNoTop tops (last_end (up_to u (ends_of (root_of p) C.tree)))
MayTell tops d C S u kind.Serial p = SerialOver S u (is_deferred u d.intents)
MayTell tops d C S u _ p = (tops.is_top (uid_number u) ≡ true) × ((n : ℕ) → Meaning S (mail.ToldAbort (uid_number u) n))

pub record IsToldOf (tops : Kinds) (d : Disk) (C : Coord) (S : State) (u : Uid) : Type 0 where
  pub branch : Branch
  pub found : branch_of u C.tree ≡ Some branch
  pub may : MayTell tops d C S u branch.kind branch.path

module _ (x k : ℕ) (tops : Kinds) (e : ℕ) (d : Disk) (t : Parts) (C : Coord) (S : State) where
  abbrev P : Seen → Type 0
  P = IsSeenByDisks x tops

  -- what goes on behind, in any world with these disks
  abbrev pub Goes : List Effect → Type 0
  Goes rest = (N : Seen) (V : World) → V.disk ≡ S → SeesDisks x tops V (up k d (with_coord t C) N) →
      Walks P e k rest (Up P k (with_coord t C)) d N

  -- a told that claims what is true
  sends_told : (V : World) (N : Seen) (root : Uid) (ends : List (Uid × End)) (n : ℕ) (more : List Body) →
      ClaimsLast tops V n false (last_end ends) → SeesDisks x tops V (up k d (with_coord t C) N)
      → SeesDisks x tops V (up k d (with_coord t C)
      (said e more (posted (record { from = k; to = n; message = message.Told (record { root = root; ack = false; ends = ends }) }) N)))
  sends_told V N root ends n more claim s =
      let p : Post = record { from = k; to = n; message = message.Told (record { root = root; ack = false; ends = ends }) } in
      says_seen x tops V (up k d (with_coord t C) (posted p N)) (numbered e more)
      (posts_seen x tops V (up k d (with_coord t C) N) p claim s)

  pub aborted : (u root : Uid) (rest : List Effect) → Goes rest → tops.is_top (uid_number u) ≡ true → ((n : ℕ) →
      Meaning S (mail.ToldAbort (uid_number u) n)) → (ns : List ℕ) → Goes (tell_all root false ((u, ending.Abort) ∷ []) ns ++ rest)
  aborted u root rest go top may [] N V same s = go N V same s
  aborted u root rest go top may (n ∷ ns) N V same s = λ more quiet.
      let m : mail.Message = mail.ToldAbort (uid_number u) n in
      let p : Post =
      record { from = k; to = n; message = message.Told (record { root = root; ack = false; ends = (u, ending.Abort) ∷ [] }) } in
      aborted u root rest go top may ns (said e more (posted p N)) (after V (machine.Send m)) same
      (sends_told (after V (machine.Send m)) N root ((u, ending.Abort) ∷ []) n more (inl (top, inl (inl refl)), λ a. absurd (cc a))
      (sends_seen x tops V (up k d (with_coord t C) N) m (subst (λ D. Meaning D m) (sym same) (may n)) refl s))

  nested : (root : Uid) (ends : List (Uid × End)) (rest : List Effect) → Goes rest → EndsNoTop tops (last_end ends) → (ns : List ℕ) →
      Goes (tell_all root false ends ns ++ rest)
  nested root ends rest go none [] N V same s = go N V same s
  nested root ends rest go none (n ∷ ns) N V same s = λ more quiet.
      let p : Post = record { from = k; to = n; message = message.Told (record { root = root; ack = false; ends = ends }) } in
      nested root ends rest go none ns (said e more (posted p N)) V same (sends_told V N root ends n more (claim (last_end ends) none) s)
    where
      of : (u : Uid × End) → IsNested tops (uid_number u.0) → ClaimsLast tops V n false (Some u)
      of (u, ending.Commit) nt = (inr nt, λ a. absurd (cc a))
      of (u, ending.Abort) nt = (inr (inr nt), λ a. absurd (cc a))

      claim : (o : Option (Uid × End)) → EndsNoTop tops o → ClaimsLast tops V n false o
      claim None nt = tt
      claim (Some u) nt = of u nt

  pub serial : (u : Uid) (rest : List Effect) → Goes rest → SerialOver S u (is_deferred u d.intents) → (f : ℕ → Bool) → ((n : ℕ) → f n
      ≡ true → is_deferred u d.intents n ≡ false) → (ns : List ℕ) → Goes (tell_all u false ((u, ending.Abort) ∷ []) (filter f ns) ++ rest)
  serial u rest go over f free [] N V same s = go N V same s
  serial u rest go over f free (n ∷ ns) N V same s = by (f n) refl (serial u rest go over f free ns)
    where
      by : (b : Bool) → f n ≡ b → Goes (tell_all u false ((u, ending.Abort) ∷ []) (filter f ns) ++ rest) → Walks P e k
          (tell_all u false ((u, ending.Abort) ∷ []) (if b then n ∷ filter f ns else filter f ns) ++ rest) (Up P k (with_coord t C)) d N
      by false is ih = ih N V same s
      by true is ih = λ more quiet.
          let m : mail.Message = mail.ToldSerial (uid_number u) n in
          let p : Post =
          record { from = k; to = n; message = message.Told (record { root = u; ack = false; ends = (u, ending.Abort) ∷ [] }) } in
          ih (said e more (posted p N)) (after V (machine.Send m)) same
          (sends_told (after V (machine.Send m)) N u ((u, ending.Abort) ∷ []) n more
          (inr (inl (ap (λ (D : State). D.serial (uid_number u)) same ∙ over.serial, inl refl)), λ a. absurd (cc a))
          (sends_seen x tops V (up k d (with_coord t C) N) m (subst (λ D. Meaning D m) (sym same) (over.over, over.unlisted n (free n is)))
          refl s))

  by_kind : (u : Uid) (kd : Kind) (p : Path) (rest : List Effect) → Goes rest → MayTell tops d C S u kd p →
      Goes (tolds_by u kd p d.intents C ++ rest)
  by_kind u kind.Nested p rest go may =
      nested (root_of p) (up_to u (ends_of (root_of p) C.tree)) rest go may (servers_told u (root_at (root_of p) C) C)
  by_kind u kind.Serial p rest go may = serial u rest go may (λ n. not (is_deferred u d.intents n))
      (λ n h. not_true (is_deferred u d.intents n) h) (nodes_sent u (root_at u C))
  by_kind u kind.Top p rest go may = aborted u (root_of p) rest go may.0 may.1 (nodes_sent u (root_at (root_of p) C))
  by_kind u kind.Independent p rest go may = aborted u (root_of p) rest go may.0 may.1 (nodes_sent u (root_at (root_of p) C))
  by_kind u kind.Constituent p rest go may = aborted u (root_of p) rest go may.0 may.1 (nodes_sent u (root_at (root_of p) C))

  -- the nodes that an end concerns are told
  pub tolds_walk : (u : Uid) (rest : List Effect) → Goes rest → IsToldOf tops d C S u → Goes (tolds_of d.intents C u ++ rest)
  tolds_walk u rest go is =
      subst (λ o. Goes (tolds_of_branch u d.intents C o ++ rest)) (sym is.found) (by_kind u is.branch.kind is.branch.path rest go is.may)

  -- those of several ends
  pub all_told : (us : List Uid) → AllByRecursion (IsToldOf tops d C S) us → Goes (flat_map (tolds_of d.intents C) us)
  all_told [] all N V same s = (V, s)
  all_told (u ∷ us) all N V same s = tolds_walk u (flat_map (tolds_of d.intents C) us) (all_told us all.1) all.0 N V same s
