-- Requests of which the disk half claims nothing, walked through.
use Rattle.arj_law_parts.proofs.Words
use Words.{ℕ, List, [], ◌∷◌, ◌++◌, sym, subst, append-nil, AllByRecursion, Path, Ask, request, asks_all, asks_node, Coord, Disk, Effect}
use Words.{Parts, with_coord, numbered, request_reads_back, Post, Seen}
use Rattle.arj_law_disk_view.proofs.Terms.{World, up, said, posted, Walks, Up, Kinds, ClaimsAsk, SeesDisks, IsSeenByDisks}
use Rattle.arj_law_disk_view.proofs.view
use view.{Frames.says_seen, Frames.posts_seen}
use view.HeardWalks.{asks_noted, asks_roots, roots_seen}
use Rattle.arj_law_disk_view.specs.view.Sees.{ClaimsAsked}

-- the request claims what is true in this world
abbrev pub MayAsk : ℕ → World → Path → ℕ → ℕ × Ask → Type 0
MayAsk x V path req a = ClaimsAsk x V a.0 (record { path = path; req = req }) a.1

module _ (x : ℕ) (tops : Kinds) (e k : ℕ) (d : Disk) (t : Parts) (path : Path) (req : ℕ) where
  sent : (v : Parts) (rest : List Effect) (c : Coord) (V : World) → ((L : Seen) → SeesDisks x tops V (up k d (with_coord t c) L) →
      Walks (IsSeenByDisks x tops) e k rest (Up (IsSeenByDisks x tops) k v) d L)
      → (asked : List (ℕ × Ask)) (c2 : Coord) (N : Seen) → AllByRecursion (MayAsk x V path req) asked →
      SeesDisks x tops V (up k d (with_coord t c) N) →
      Walks (IsSeenByDisks x tops) e k ((asks_all path req asked c2).outs ++ rest) (Up (IsSeenByDisks x tops) k v) d N
  sent v rest c V go [] c2 N may s = go N s
  sent v rest c V go (a ∷ asked) c2 N may s = λ more quiet.
      let p : Post = record { from = k; to = a.0; message = request (record { path = path; req = req }) a.1 } in
      sent v rest c V go asked (asks_node path req a c2).part (said e more (posted p N)) may.1
      (says_seen x tops V (up k d (with_coord t c) (posted p N)) (numbered e more) (posts_seen x tops V (up k d (with_coord t c) N) p
      (subst (λ o. ClaimsAsked x tops V N.lines k a.0 (request (record { path = path; req = req }) a.1) o)
      (sym (request_reads_back (record { path = path; req = req }) a.1)) may.0) s))

  -- the coordinator takes note of them at the root
  pub asks_walk : (asked : List (ℕ × Ask)) (c : Coord) (N : Seen) (V : World) → AllByRecursion (MayAsk x V path req) asked →
      SeesDisks x tops V (up k d (with_coord t c) N)
      → let did = asks_all path req asked c in
      Walks (IsSeenByDisks x tops) e k did.outs (Up (IsSeenByDisks x tops) k (with_coord t did.part)) d N
  asks_walk asked c N V may s = subst (λ es. Walks (IsSeenByDisks x tops) e k es
      (Up (IsSeenByDisks x tops) k (with_coord t (asks_all path req asked c).part)) d N) (append-nil (asks_all path req asked c).outs)
      (sent (with_coord t (asks_all path req asked c).part) [] c V
      (λ L s2. (
        V,
        subst (λ (z : Coord). SeesDisks x tops V (up k d (with_coord t z) L)) (sym (asks_roots path req asked c)) (roots_seen x k tops V L d
            t c (asks_all path req asked c).part.roots (λ known. asks_noted x V path req asked c known.roots) s2),
      )) asked c N may s)
