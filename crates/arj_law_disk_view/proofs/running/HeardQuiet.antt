-- What coordinators have of naming's answers, where lines are said, and where a node stops.
use Rattle.arj_law_parts.proofs.Words
use Words.{◌≡◌, ℕ, ◌==◌, ◌<◌, if◌then◌else◌, false, List, Option, Some, None, refl, sym, ◌∙◌, ap, subst, inl, ⊎_elim, Body, asks, Disk}
use Words.{Parts, uid_number, Node, Post, Seen}
use Rattle.arj_law_disk_view.proofs.Terms
use Terms.{Office, at, said, halted, IsFixed, Kinds, OnlyMemory, SeesBoth, ClaimsAsked, SeesHeard, Named, Quietly}
use Terms.seen
use Rattle.arj_law_disk_view.proofs.{names.GrantClaims.changes_are_after, running.HeardAll.heard_to, view.Frames.node_cases}
use Rattle.arj_law_disk_view.proofs.{view.Frames.node_here}
use Rattle.arj_law_disk_view.proofs.running.HeardStays.{SendsMore, claim_stays, memory_goes, memory_stays, none_stays}

-- nothing more was sent
pub sends_same : (x : ℕ) (B : Office) (sent : List Post) → SendsMore x B sent sent
sends_same x B sent = record { within = λ p i. i; new = λ p i. inl i }

pub fixed_in : (x : ℕ) (tops : Kinds) (A : Office) (M : Seen) → SeesBoth x tops A M → IsFixed tops A.world.disk
fixed_in x tops A M both = let s = both.disks in s.fixed

-- old requests claim what they did, where nothing but naming's memory has changed
pub old_claims : (x : ℕ) (tops : Kinds) (A B : Office) (M : Seen) → IsFixed tops A.world.disk → IsFixed tops B.world.disk → Named A →
    Named B → OnlyMemory A B → SeesHeard x tops A M → (q : Post) → seen.In q M.sent → ClaimsAsked x B (asks q.message)
old_claims x tops A B M f h named held only p q i =
    claim_stays x tops A B f h (memory_goes A B only) named held (changes_are_after Quietly A B named only) (asks q.message) (p.posts q i)

pub heard_quiet : (x : ℕ) (tops : Kinds) (e : ℕ) (bs : List Body) (M : Seen) (A B : Office) → IsFixed tops A.world.disk →
    IsFixed tops B.world.disk → Named A → Named B → OnlyMemory A B → SeesHeard x tops A M → SeesHeard x tops B (said e bs M)
heard_quiet x tops e bs M A B f h named held only p =
    heard_to x tops A B M (said e bs M) f h (memory_goes A B only) p (sends_same x B M.sent) (old_claims x tops A B M f h named held only p)
    (λ j n t there live. inl (record {
      node = n;
      there = there;
      parts = t;
      live = live;
      same = refl;
      stays = λ u own kind. memory_stays tops A B only (tops.root (uid_number u));
    }))
    (λ j n u there at alone low. none_stays x tops A B f h (memory_goes A B only) (uid_number u) (memory_stays tops A B only (uid_number u))
    (p.future j n u there at alone low))

pub heard_stop : (x : ℕ) (tops : Kinds) (e k : ℕ) (d : Disk) (live : Option Parts) (M : Seen) (A B : Office) → IsFixed tops A.world.disk →
    IsFixed tops B.world.disk → Named A → Named B → OnlyMemory A B → SeesHeard x tops A (at k d live M) →
    SeesHeard x tops B (halted e k d M)
heard_stop x tops e k d live M A B f h named held only p = heard_to x tops A B (at k d live M) (halted e k d M) f h (memory_goes A B only) p
    (sends_same x B M.sent) (old_claims x tops A B (at k d live M) f h named held only p)
    (λ j n t there up. ⊎_elim
    (λ (c : (j ≡ k) × (record { number = k; disk = d; live = None } ≡ n)).
    absurd (let none : None ≡ Some t = ap (λ (z : Node). z.live) c.1 ∙ up in cc))
    (λ (c : ((j == k) ≡ false) × (M.nodes j ≡ Some n)). inl (record {
      node = n;
      there = other j n c.0 c.1;
      parts = t;
      live = up;
      same = refl;
      stays = λ u own kind. memory_stays tops A B only (tops.root (uid_number u));
    }))
    (node_cases M k (record { number = k; disk = d; live = None }) j n there))
    (λ j n u there at_j alone low.
    none_stays x tops A B f h (memory_goes A B only) (uid_number u) (memory_stays tops A B only (uid_number u)) (⊎_elim
    (λ (c : (j ≡ k) × (record { number = k; disk = d; live = None } ≡ n)).
    p.future k (record { number = k; disk = d; live = live }) u (node_here M k (record { number = k; disk = d; live = live }))
    (at_j ∙ c.0) alone (subst (λ (z : Node). z.disk.inc < u.inc) (sym c.1) low))
    (λ (c : ((j == k) ≡ false) × (M.nodes j ≡ Some n)). p.future j n u (other j n c.0 c.1) at_j alone low)
    (node_cases M k (record { number = k; disk = d; live = None }) j n there)))
  where
    other : (j : ℕ) (n : Node) → (j == k) ≡ false → M.nodes j ≡ Some n → (at k d live M).nodes j ≡ Some n
    other j n apart there = ap (λ b. if b then Some (record { number = k; disk = d; live = live }) else M.nodes j) apart ∙ there

-- where nothing was said either
pub heard_still : (x : ℕ) (tops : Kinds) (M : Seen) (A B : Office) → IsFixed tops A.world.disk → IsFixed tops B.world.disk → Named A →
    Named B → OnlyMemory A B → SeesHeard x tops A M → SeesHeard x tops B M
heard_still x tops M A B f h named held only p =
    heard_to x tops A B M M f h (memory_goes A B only) p (sends_same x B M.sent) (old_claims x tops A B M f h named held only p)
    (λ j n t there live. inl (record {
      node = n;
      there = there;
      parts = t;
      live = live;
      same = refl;
      stays = λ u own kind. memory_stays tops A B only (tops.root (uid_number u));
    }))
    (λ j n u there at alone low. none_stays x tops A B f h (memory_goes A B only) (uid_number u) (memory_stays tops A B only (uid_number u))
    (p.future j n u there at alone low))
