-- Why a run did not come to its end time, where its lines were not all printed.
use Rattle.vital_kernel.specs.declared.run_error.RunError.{RunError}
use Rattle.vital_kernel.specs.declared.run_error.RunError.TheVariants as error
use Rattle.vital_report.specs.declared.print_error.PrintError.{PrintError}
use Rattle.vital_report.specs.declared.print_error.PrintError.TheVariants as print

abbrev pub run_error : PrintError → RunError
run_error print.WriteFault = error.WriteFault
run_error print.NoMemory = error.NoMemory
