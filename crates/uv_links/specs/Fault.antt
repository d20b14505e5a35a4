-- Which faults come while the base is compared, and what a line's want of room is as a run's.
use Rattle.std.specs.Prelude.{Option}
use Rattle.uv_model.specs.Records.Url.{Url}
use Rattle.uv_lines.specs.declared.fault.StopFault.TheVariants.{Memory}
use Rattle.uv_links.specs.declared.fault.LinkFault.{LinkFault}
use Rattle.uv_links.specs.declared.fault.LinkFault.TheVariants.{Stop, Overflow, BaseDiffers}
use Rattle.uv_compare.specs.declared.fault.RoomFault.{RoomFault}
use Rattle.uv_compare.specs.declared.fault.RoomFault.TheVariants as room
use Rattle.uv_compare.specs.Second.{AgreesOnBase}

-- the fault of a run that wants the same room
abbrev pub fault_of_room : RoomFault → LinkFault
fault_of_room room.Memory = Stop Memory
fault_of_room room.Overflow = Overflow

-- a base's text isn't compared for want of room, or the second parser refuses it or reads it as another text
abbrev pub IsBaseFault : Option Url → LinkFault → Type 0
IsBaseFault base (Stop Memory) = Unit {0}
IsBaseFault base Overflow = Unit {0}
IsBaseFault base BaseDiffers = ¬ (AgreesOnBase base)
IsBaseFault base _ = ⊥
