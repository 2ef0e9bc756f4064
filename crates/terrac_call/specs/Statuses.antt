-- The table of statuses: their numbers, which the process ends with, and the lines that `notes` takes.
use Rattle.std.specs.Prelude.{ℕ, List, [], ◌++◌, codes}
use Rattle.std.specs.Fmt.{decimal}
use Rattle.tl_lex.specs.declared.SyntaxKind.{SyntaxKind}
use Rattle.tl_lex.specs.declared.SyntaxKind.TheVariants as syntax
use Rattle.elf_image.specs.declared.error.ImageError.{ImageError}
use Rattle.elf_image.specs.declared.error.ImageError.TheVariants as tests
use Rattle.rv_machine.specs.declared.stops.MachineKind.{MachineKind}
use Rattle.rv_machine.specs.declared.stops.MachineKind.TheVariants as machine
use Rattle.rv_listing.specs.declared.assembly.AsmKind.{AsmKind}
use Rattle.rv_listing.specs.declared.assembly.AsmKind.TheVariants as assembly
use Rattle.terrac_call.specs.declared.status.FaultKind.{FaultKind}
use Rattle.terrac_call.specs.declared.status.FaultKind.TheVariants as faults
use Rattle.terrac_call.specs.declared.status.ImageFault.{ImageFault}
use Rattle.terrac_call.specs.declared.status.ImageFault.TheVariants as images
use Rattle.terrac_call.specs.declared.status.Status.{Status}
use Rattle.terrac_call.specs.declared.status.Status.TheVariants.{Ok, Usage, Syntax, Raised, BudgetSpent, NoEntry}
use Rattle.terrac_call.specs.declared.status.Status.TheVariants.{BadArgument, Fault, Unfinished, BadImage, ReadFault}
use Rattle.terrac_call.specs.declared.status.Status.TheVariants.{WriteFault, NoMemory, MachineFault, BadAssembly}
use Rattle.stage_model.specs.Texts.{place_text}

abbrev pub code_of : Status → ℕ
code_of Ok = 0
code_of Usage = 2
code_of (Syntax kind place) = 3
code_of (Raised text place) = 4
code_of BudgetSpent = 5
code_of NoEntry = 6
code_of (BadArgument number) = 7
code_of (Fault kind place) = 8
code_of Unfinished = 9
code_of (BadImage fault) = 10
code_of ReadFault = 11
code_of WriteFault = 12
code_of NoMemory = 13
code_of (MachineFault kind pc) = 14
code_of (BadAssembly kind number) = 16

abbrev pub kind_name : SyntaxKind → List ℕ
kind_name syntax.BadByte = codes "BadByte"
kind_name syntax.OpenText = codes "OpenText"
kind_name syntax.BadEscape = codes "BadEscape"
kind_name syntax.BadNumber = codes "BadNumber"
kind_name syntax.NameTooLong = codes "NameTooLong"
kind_name syntax.TextTooLong = codes "TextTooLong"
kind_name syntax.TooDeep = codes "TooDeep"
kind_name syntax.Ambiguous = codes "Ambiguous"
kind_name syntax.Unexpected = codes "Unexpected"
kind_name syntax.TooLong = codes "TooLong"
kind_name syntax.NotUtf8 = codes "NotUtf8"

abbrev pub error_text : ImageError → List ℕ
error_text tests.Short = codes "Short"
error_text tests.BadMagic = codes "BadMagic"
error_text (tests.BadField offset) = codes "BadField " ++ decimal offset
error_text tests.Overlap = codes "Overlap"
error_text tests.BadSymbol = codes "BadSymbol"
error_text tests.NoMemory = codes "NoMemory"

abbrev pub image_fault_text : ImageFault → List ℕ
image_fault_text images.TooLong = codes "TooLong"
image_fault_text (images.Refused error) = error_text error

abbrev pub fault_text : FaultKind → List ℕ
fault_text faults.BadAddress = codes "BadAddress"
fault_text faults.DivZero = codes "DivZero"
fault_text faults.StackFull = codes "StackFull"
fault_text faults.CallDepth = codes "CallDepth"
fault_text faults.NoReturn = codes "NoReturn"
fault_text faults.BadCall = codes "BadCall"

abbrev pub machine_fault_text : MachineKind → List ℕ
machine_fault_text machine.IllegalWord = codes "IllegalWord"
machine_fault_text machine.BadFetch = codes "BadFetch"
machine_fault_text machine.BadAccess = codes "BadAccess"
machine_fault_text machine.BadCall = codes "BadCall"
machine_fault_text machine.Break = codes "Break"

abbrev pub assembly_text : AsmKind → List ℕ
assembly_text assembly.Empty = codes "Empty"
assembly_text assembly.BadName = codes "BadName"
assembly_text assembly.BadOperands = codes "BadOperands"

-- the line without its end; that of NoEntry ends with the entry's name, and behind that of Usage stands a text of its own
abbrev pub text_of : Status → List ℕ
text_of Ok = []
text_of Usage = codes "usage"
text_of (Syntax kind place) = codes "syntax " ++ kind_name kind ++ codes " at " ++ place_text place
text_of (Raised text place) = codes "raised " ++ text ++ codes " at " ++ place_text place
text_of BudgetSpent = codes "budget spent"
text_of NoEntry = codes "no entry "
text_of (BadArgument position) = codes "bad argument " ++ decimal position
text_of (Fault kind place) = codes "fault " ++ fault_text kind ++ codes " at " ++ place_text place
text_of Unfinished = codes "unfinished"
text_of (BadImage fault) = codes "bad image " ++ image_fault_text fault
text_of ReadFault = codes "read fault"
text_of WriteFault = codes "write fault"
text_of NoMemory = codes "no memory"
text_of (MachineFault kind pc) = codes "machine fault " ++ machine_fault_text kind ++ codes " at " ++ decimal pc
text_of (BadAssembly kind number) = codes "bad assembly " ++ assembly_text kind ++ codes " at " ++ decimal number
