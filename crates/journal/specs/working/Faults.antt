-- What a stop at the first record is answered as.
use Rattle.journal.specs.declared.fault.OpenFault.{OpenFault}
use Rattle.journal.specs.declared.fault.OpenFault.TheVariants as fault
use Rattle.journal.specs.declared.stop.Stop.{Stop}
use Rattle.journal.specs.declared.stop.Stop.TheVariants as stop

abbrev pub first_fault : Stop → OpenFault
first_fault stop.Malformed = fault.Damaged 0
first_fault (stop.Disk step) = fault.DiskFault step
first_fault stop.NoMemory = fault.NoMemory
