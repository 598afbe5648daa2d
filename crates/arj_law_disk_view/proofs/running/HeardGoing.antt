-- A commit past its votes that was so before has begun in the machine, and so it begins no more.
use Rattle.arj_law_parts.proofs.Words
use Words.{◌≡◌, ℕ, true, false, Some, refl, sym, ◌∙◌, ap, ⊎_elim, Uid, Confirming, Machine, Preparing, Voting, plan_of, Committing, Coord}
use Words.{Doing, Idle, doing_of, Disk, Parts, uid_number, Seen}
use Words.commit
use Rattle.arj_law_disk_view.proofs.Terms
use Terms.{Office, is_idle, never, up, KnowsNode, Kinds, SeesCoord, SeesBoth, BeginsLater, MayGoOn, is_voting}
use Rattle.arj_law_disk_view.proofs.running.HeardLike.{IsLike}
use Rattle.arj_law_disk_view.proofs.view.{DecideWalks.confirming_of, Frames.node_here, HeardWalks.preparing_of}

-- who has begun begins no more
pub begun_later : (x : ℕ) (A : Office) (u : Uid) (p : commit.Plan) → A.world.disk.begun (uid_number u) ≡ true → BeginsLater x A u p
begun_later x A u p begun C named names later tops opens can =
    absurd (never (ap is_idle can.idle) (named.whole.core.fresh.begun (uid_number u) (later.begun (uid_number u) begun)))

-- a commit that is past its votes has begun
pub past_begun : (x : ℕ) (tops : Kinds) (k : ℕ) (d : Disk) (t : Parts) (M : Seen) (A : Office) → KnowsNode tops k d t M →
    SeesBoth x tops A (up k d t M) → (u : Uid) (q : Doing) (m : Machine) → doing_of u t.coord ≡ Some q → q.now ≡ Committing m →
    is_voting m ≡ false → A.world.disk.begun (uid_number u) ≡ true
past_begun x tops k d t M A knows both u q m at_work now past = by m now past
  where
    sees : SeesCoord x k d.inc tops t.coord A.world.disk
    sees = let s = both.disks in
        s.coords k (record { number = k; disk = d; live = Some t }) t (node_here M k (record { number = k; disk = d; live = Some t })) refl

    by : (z : Machine) → q.now ≡ Committing z → is_voting z ≡ false → A.world.disk.begun (uid_number u) ≡ true
    by (Voting p left) is on = absurd (never refl on)
    by (Preparing p left) is on = let w = let y = knows.coord in y.machines u q (Preparing p left) at_work is in (preparing_of x tops
        A.world.disk (uid_number u) w.branch.kind q.now p left w.top is (sees.working u w.branch q w.found w.unended at_work)).begun
    by (Confirming p) is on = let w = let y = knows.coord in y.machines u q (Confirming p) at_work is in (confirming_of x tops A.world.disk
        (uid_number u) w.branch.kind q.now p w.top is (sees.working u w.branch q w.found w.unended at_work)).begun

-- a commit past its votes that the coordinator had before has begun
pub old_goes_on : (x : ℕ) (tops : Kinds) (k : ℕ) (d : Disk) (t : Parts) (M : Seen) (A : Office) → KnowsNode tops k d t M →
    SeesBoth x tops A (up k d t M) → (c : Coord) → ((u : Uid) (q : Doing) (m : Machine) → doing_of u c ≡ Some q → q.now ≡ Committing m →
    is_voting m ≡ false → doing_of u t.coord ≡ Some q) → MayGoOn x A c
old_goes_on x tops k d t M A knows both c had u q m does now past =
    begun_later x A u (plan_of m) (past_begun x tops k d t M A knows both u q m (had u q m does now past) now past)

-- so it is where nobody but who waits for nothing is new
pub like_goes_on : (x : ℕ) (tops : Kinds) (k : ℕ) (d : Disk) (t : Parts) (M : Seen) (A : Office) → KnowsNode tops k d t M →
    SeesBoth x tops A (up k d t M) → (c : Coord) → IsLike t.coord c → MayGoOn x A c
like_goes_on x tops k d t M A knows both c like = old_goes_on x tops k d t M A knows both c
    (λ u q m does now past. ⊎_elim (λ old. old) (λ idle. absurd (let e : Idle ≡ Committing m = sym idle ∙ now in cc)) (like.works u q does))
