-- the program's own cores say their readings
use Rattle.arj_top.proofs.top.arjuna.Goals as goal

pub returns-clause-headline : goal.returns-clause-headline
returns-clause-headline g c is four five = c.run_on.ensures.headline _ c.cores_say_their_readings.ensures is four five

pub returns-clause-shown : goal.returns-clause-shown
returns-clause-shown g c is which = c.run_on.ensures.shown _ c.cores_say_their_readings.ensures is which

pub returns-clause-bank : goal.returns-clause-bank
returns-clause-bank g c n is = c.run_on.ensures.bank c.cores_say_their_readings.ensures n is

pub returns-clause-images : goal.returns-clause-images
returns-clause-images g c is = c.run_on.ensures.images _ c.cores_say_their_readings.ensures c.cores_save_their_files.ensures is

pub returns-clause-programs : goal.returns-clause-programs
returns-clause-programs g c is = c.run_on.ensures.programs _ c.cores_say_their_readings.ensures is
