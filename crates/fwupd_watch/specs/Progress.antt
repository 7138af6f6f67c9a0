-- The progress of the devices of a run: the requests for bytes of their images, and what is shown
-- of them.
use Rattle.std.specs.Prelude.{ℕ, ◌==◌, ◌&&◌, ◌+◌, ◌-◌, ◌*◌, ◌/◌, ◌^◌, ◌++◌, nat_le, Bool, codes, if◌then◌else◌, List, [], ◌∷◌, Option, None, Some, Result, drop, is_some, length, min, option_map, slice_get, suc}
use Rattle.std.specs.Time.{instant_nanos}
use Rattle.std.specs.declared.time.Instant.{Instant}
use Rattle.std.specs.List.{flat_map}
use Rattle.std.specs.Option.{unwrap_or}
use Rattle.exch_lane.specs.Lanes.{Sent}
use Rattle.fd_core.specs.States.{staged_of}
use Rattle.fw_steps.specs.Worlds.{SiteOf}
use Rattle.fw_text.specs.Printing.{word_and_number}
use Rattle.fwupd_watch.specs.Loads.{event_of, load_text, loaded}
use Rattle.fwupd_watch.specs.Terminals.{cursor_up, end_of_line_erased, end_of_screen_erased}
use Rattle.fwupd_watch.specs.declared.loads.Event.{Event}
use Rattle.fwupd_watch.specs.declared.loads.Event.TheVariants as events
use Rattle.fwupd_watch.specs.declared.loads.Load.{Load}
use Rattle.fwupd_watch.specs.declared.progress.FirstDisplay.{FirstDisplay}
use Rattle.fwupd_watch.specs.declared.progress_text.Pace.{Pace}
use Rattle.fwupd_watch.specs.declared.progress_text.ProgressLine.{ProgressLine}
use Rattle.mctp_wire.specs.Packet.{packet_of}
use Rattle.mctp_wire.specs.declared.fault.WireFault.{WireFault}
use Rattle.mctp_wire.specs.declared.layout.Head.{Head}
use Rattle.mctp_wire.specs.declared.unit.Unit.TheVariants.{U128}

-- the end of the requested bytes, if this is said of the device's RequestFirmwareData (DSP0267)
abbrev pub end_in : (device : ℕ) → Option Event → Option ℕ
end_in device (Some (events.Asks source end)) = if source == device then Some end else None
end_in device other = None

-- and by a packet
abbrev pub end_asked : (device : ℕ) → Result (Head × List ℕ) WireFault → Option ℕ
end_asked device packet = end_in device (event_of packet)

-- The end of the bytes that a device requested last: that of the last of these packets in which it
-- requests bytes, or `before` if there is none.
abbrev pub last_end : (device before : ℕ) → List Sent → ℕ
last_end device before [] = before
last_end device before (packet ∷ packets) = last_end device (unwrap_or (end_asked device (packet_of U128 packet.bytes)) before) packets

-- the end of the bytes that a device requested last in the latest 16 packets of its pair; 0 if it
-- requested none in them
abbrev pub latest_end : (device : ℕ) → List Sent → ℕ
latest_end device packets = last_end device 0 (drop (length packets - 16) packets)

-- the image that a device loads, if it loads one
abbrev pub load_of : SiteOf → Option Load
load_of site = option_map (λ staged. record {
  device = site.node.endpoint.eid;
  key = staged.0;
  asked = latest_end site.node.endpoint.eid site.packets;
  size = staged.1;
}) (staged_of site.node.half.core.device.phase)

-- the same, if there is a device
abbrev pub load_in : Option SiteOf → Option Load
load_in None = None
load_in (Some site) = load_of site

-- the images that the devices at the first `count` places load, in configured order
abbrev pub loads_at : List SiteOf → (count : ℕ) → List (Option Load)
loads_at sites Prim.Native.Nat.zero = []
loads_at sites (suc place) = loads_at sites place ++ load_in (slice_get sites place) ∷ []

-- the part of an image that is loaded, in percent, rounded down; an empty image is loaded
abbrev pub percent : Load → ℕ
percent load = if load.size == 0 then 100 else loaded load * 100 / load.size

-- Two loads are of one image: of one device, for one component and of one size, and the later one
-- hasn't fewer requested bytes.
abbrev pub is_one_image : (earlier later : Load) → Bool
is_one_image earlier later =
    earlier.device == later.device && earlier.key.classification == later.key.classification && earlier.key.identifier == later.key.identifier
    && earlier.size == later.size && nat_le earlier.asked later.asked

-- the bytes of an image that were requested since its first display, and the time since then; none
-- if the first display was of another image
abbrev pub pace_since : (first load : Load) → (nanos : ℕ) → Option Pace
pace_since first load nanos =
    if is_one_image first load then Some (record { gained = loaded load - loaded first; nanos = nanos }) else None

-- the same at a time, if there was a first display; times are those of the clock, and what passed
-- since is at most 2 ^ 64 - 1 nanoseconds
abbrev pub pace_at : (first : Option FirstDisplay) → (load : Load) → (now : Instant) → Option Pace
pace_at None load now = None
pace_at (Some first) load now = pace_since first.load load (min (instant_nanos now - instant_nanos first.time) (2 ^ 64 - 1))

-- the first display of an image that is shown at a time: this one, unless there was one of it
abbrev pub first_after : (first : Option FirstDisplay) → (load : Load) → (now : Instant) → Option FirstDisplay
first_after first load now = if is_some (pace_at first load now) then first else Some (record { load = load; time = now })

-- the line of the image that a device loads, if it loads one
abbrev pub lines_for : (first : Option FirstDisplay) → Option Load → (now : Instant) → List ProgressLine
lines_for first None now = []
lines_for first (Some load) now = record { load = load; pace = pace_at first load now } ∷ []

-- its first display then; none if the device loads none
abbrev pub first_left : (first : Option FirstDisplay) → Option Load → (now : Instant) → Option FirstDisplay
first_left first None now = None
first_left first (Some load) now = first_after first load now

-- the lines of the images that devices load, in order, by their first displays
abbrev pub lines_of : (firsts : List (Option FirstDisplay)) → List (Option Load) → (now : Instant) → List ProgressLine
lines_of (first ∷ firsts) (load ∷ loads) now = lines_for first load now ++ lines_of firsts loads now
lines_of firsts loads now = []

-- their first displays then
abbrev pub firsts_left : (firsts : List (Option FirstDisplay)) → List (Option Load) → (now : Instant) → List (Option FirstDisplay)
firsts_left (first ∷ firsts) (load ∷ loads) now = first_left first load now ∷ firsts_left firsts loads now
firsts_left firsts loads now = firsts

-- the bytes a second, rounded down; 0 if no time passed
abbrev pub rate : Pace → ℕ
rate pace = if pace.nanos == 0 then 0 else pace.gained * 10 ^ 9 / pace.nanos

-- the seconds that `rest` bytes take at a rate, rounded up; none if it is 0
abbrev pub time_to_go : (rest rate : ℕ) → Option ℕ
time_to_go rest rate = if rate == 0 then None else Some ((rest + (rate - 1)) / rate)

-- a rate and a time to go, if there is one
abbrev pub speed_text : (rate : ℕ) → (time : Option ℕ) → List ℕ
speed_text rate None = []
speed_text rate (Some time) = word_and_number (codes ", ") rate ++ word_and_number (codes " bytes/s, ") time ++ codes " s to go"

-- what a line says from the second display of an image on
abbrev pub pace_text : (rest : ℕ) → Option Pace → List ℕ
pace_text rest None = []
pace_text rest (Some pace) = speed_text (rate pace) (time_to_go rest (rate pace))

-- The line of a device that loads an image. What was on the terminal's line is overwritten or
-- erased, and the cursor goes to the next line.
abbrev pub line_text : ProgressLine → List ℕ
line_text line =
    codes "\r" ++ load_text line.load ++ word_and_number (codes ", ") (percent line.load) ++ codes " %" ++ pace_text (line.load.size - loaded line.load) line.pace ++ end_of_line_erased
    ++ codes "\n"

-- A display after one of `drawn` lines: the cursor goes up to the first of these, each line is
-- drawn in place, and the lines that aren't drawn again are erased.
abbrev pub display : (drawn : ℕ) → List ProgressLine → List ℕ
display drawn lines = cursor_up drawn ++ flat_map line_text lines ++ (if nat_le drawn (length lines) then [] else end_of_screen_erased)
