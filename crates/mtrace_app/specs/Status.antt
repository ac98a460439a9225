-- The status that a call ends with.
use Rattle.std.specs.Prelude.{◌≡◌, ◌⊎◌, ℕ, Bool, if◌then◌else◌}
use Rattle.mtrace_app.specs.declared.status.Status.{Status}
use Rattle.mtrace_app.specs.declared.status.Status.TheVariants.{Clean, Found, Words, Input, ReadFault, WriteFault, Memory, TooLarge}

-- the number that the program ends with as exit status
abbrev pub exit_number : Status → ℕ
exit_number Clean = 0
exit_number Found = 1
exit_number Words = 2
exit_number Input = 3
exit_number ReadFault = 4
exit_number WriteFault = 5
exit_number Memory = 6
exit_number TooLarge = 7

-- the status with which an output ends that is written whole
abbrev pub output_status : Bool → Status
output_status is_clean = if is_clean then Clean else Found

-- the call ended with this status, or for want of memory
abbrev pub EndsWith : Status → Status → Type 0
EndsWith status wanted = (status ≡ wanted) ⊎ (status ≡ Memory)
