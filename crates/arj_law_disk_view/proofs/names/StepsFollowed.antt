-- Handlers followed from where both halves are seen.
use Rattle.arj_law_parts.proofs.Words.{Some, next_uid, path_below}
use Rattle.arj_law_disk_view.proofs.Terms.{down, up, followed}
use Rattle.arj_law_disk_view.proofs.names.StepsBoth.{walks_start}
use Rattle.arj_law_disk_view.proofs.view
use view.{NewActions.actions_begin, RestartWalks.restarts_are_walked, TickWalks.ticks_are_walked}
use view.Followed.{coord_on, kind_on, kinds_on, node_on}
use view.WholeWalks.{acts_are_walked, messages_are_walked}
use Rattle.arj_law_disk_view.specs.names
use names.Steps.{ActionsAreFollowed, InputsAreFollowed, MessagesAreFollowed, RestartsAreFollowed, TicksAreFollowed}

pub actions_are_followed : ActionsAreFollowed
actions_are_followed x tops f e k d t l g how parent above A M knows fits both =
    actions_begin x (followed tops A.world f) e k d t l g how parent above M (coord_on tops (Some (record { from = A.world; noted = f }))
    d.intents t.coord knows) (kind_on tops (Some (record { from = A.world; noted = f })) (next_uid t.coord.tree) how
    (path_below how above (next_uid t.coord.tree)) fits) A.world (walks_start x tops f A (up k d t M) both)

pub inputs_are_followed : InputsAreFollowed
inputs_are_followed hd x tops f e k d t i A M kinds knows act free notes both = acts_are_walked hd x (followed tops A.world f) e k d t i M
    (kinds_on tops (Some (record { from = A.world; noted = f })) kinds) (coord_on tops (Some (record { from = A.world; noted = f }))
    d.intents t.coord knows) act free notes A.world (walks_start x tops f A (up k d t M) both)

pub ticks_are_followed : TicksAreFollowed
ticks_are_followed x tops f e k d t A M knows begun both = ticks_are_walked x (followed tops A.world f) e k d t M (coord_on tops
    (Some (record { from = A.world; noted = f })) d.intents t.coord knows) begun A.world (walks_start x tops f A (up k d t M) both)

pub restarts_are_followed : RestartsAreFollowed
restarts_are_followed x tops f e k hd d A M begun may both =
    restarts_are_walked x (followed tops A.world f) e k hd d M begun may A.world (walks_start x tops f A (down k d M) both)

pub messages_are_followed : MessagesAreFollowed
messages_are_followed x tops f e k d t v from m outs A M knows notes sent booked is both =
    messages_are_walked x (followed tops A.world f) e k d t v from m outs M (node_on tops (Some (record { from = A.world; noted = f })) k d
    t M knows) notes sent A.world (walks_start x tops f A (up k d t M) both) booked is
