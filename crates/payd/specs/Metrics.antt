-- A node's metrics in Prometheus' text format
-- (https://prometheus.io/docs/instrumenting/exposition_formats).
use Rattle.std.specs.Prelude.{ℕ, ◌+◌, ◌-◌, ◌++◌, ◌∷◌, [], Bool, List, Option, Some, None, codes}
use Rattle.std.specs.Prelude.{count_by, decimal, if◌then◌else◌, nat_eq}
use Rattle.std.specs.Int.{from_bool}
use Rattle.std.specs.List.{ends_with, flat_map}
use Rattle.pay_frame.specs.declared.limits.TheConstants.{SEQS}
use Rattle.pay_net.specs.declared.watching.NodeFigures.{NodeFigures}
use Rattle.pay_net.specs.declared.watching.PeerFigures.{PeerFigures}
use Rattle.pay_net.specs.Figures.{has_lied_by, was_lost_by, was_met_by}
use Rattle.payd.specs.declared.metrics.Figure.{Figure}
use Rattle.payd.specs.declared.metrics.Figure.TheVariants.{Balance, Build, DurableEntries}
use Rattle.payd.specs.declared.metrics.Figure.TheVariants.{HistoryEntries, LogBytes, Peer}
use Rattle.payd.specs.declared.metrics.Figure.TheVariants.{PeersLost, PeersMet, ReadsLeft}
use Rattle.payd.specs.declared.metrics.Figure.TheVariants.{ResidentBytes, SentFrames}
use Rattle.payd.specs.declared.metrics.Figure.TheVariants.{SettledEntries, StartTime, ValuesLeft}
use Rattle.payd.specs.declared.metrics.Figure.TheVariants.{ValuesUsed, WaitingEntries, WaitingShort}
use Rattle.payd.specs.declared.metrics.Label.{Label}
use Rattle.payd.specs.declared.metrics.Label.TheVariants as label
use Rattle.payd.specs.declared.metrics.OfPeer.{OfPeer}
use Rattle.payd.specs.declared.metrics.OfPeer.TheVariants as of_peer
use Rattle.payd.specs.declared.metrics.OwnFigures.{OwnFigures}
use Rattle.payd.specs.declared.metrics.Sample.{Sample}

-- a metric: what it shows, its name, and what that means
abbrev pub Row : Type 0
Row = Figure × List ℕ × List ℕ

-- all metrics, in their order
abbrev pub metrics : List Row
metrics =
    (PeersMet, codes "peers_met", codes "Peers that are met.")
    ∷ (
      PeersLost,
      codes "peers_lost",
      codes "Peers that were met and are not now, or were given up.",
    )
    ∷ (Peer of_peer.Met, codes "peer_met", codes "Whether a peer is met.")
    ∷ (
      Peer of_peer.Unopened,
      codes "peer_unopened",
      codes "Whether a frame in its name did not open.",
    )
    ∷ (Peer of_peer.Lied, codes "peer_lied", codes "Whether it lied: nothing more is read from it.")
    ∷ (
      Peer of_peer.SilentSeconds,
      codes "peer_silent_seconds",
      codes "Seconds since its last frame.",
    )
    ∷ (Peer of_peer.AskedFrames, codes "peer_asked_frames_total", codes "Frames that it asked for.")
    ∷ (
      SettledEntries,
      codes "settled_entries_total",
      codes "Settled entries of an account: its front.",
    )
    ∷ (Balance, codes "balance", codes "Balance of the node's own account.")
    ∷ (SentFrames, codes "sent_frames_total", codes "Frames that there are for each peer.")
    ∷ (HistoryEntries, codes "history_entries_total", codes "Entries of the member's history.")
    ∷ (ValuesUsed, codes "values_used", codes "Values of the own account that are used.")
    ∷ (ValuesLeft, codes "values_left", codes "Values of the own account that are left.")
    ∷ (WaitingEntries, codes "waiting_entries", codes "Own entries that wait, 1000 at most.")
    ∷ (WaitingShort, codes "waiting_short", codes "What the balance lacks of the first that waits.")
    ∷ (DurableEntries, codes "history_durable_entries_total", codes "History entries on the disk.")
    ∷ (LogBytes, codes "log_bytes", codes "Size of the log in the node's folder.")
    ∷ (ResidentBytes, codes "resident_memory_bytes", codes "Resident memory of the process.")
    ∷ (ReadsLeft, codes "input_reads_left", codes "Reads of the desk's input that are left.")
    ∷ (StartTime, codes "start_time_seconds", codes "When the node started, in seconds since 1970.")
    ∷ (Build, codes "build_info", codes "The version of the program that runs.") ∷ []

-- ---- values

abbrev pub is_met_peer : PeerFigures → Bool
is_met_peer peer = was_met_by peer.last

abbrev pub is_lost_peer : PeerFigures → Bool
is_lost_peer peer = was_lost_by peer.last

-- a peer's value, if it is known
abbrev pub value_of_peer : OfPeer → PeerFigures → Option ℕ
value_of_peer of_peer.Met peer = Some (from_bool (was_met_by peer.last))
value_of_peer of_peer.Unopened peer = Some (from_bool peer.mistrusted)
value_of_peer of_peer.Lied peer = Some (from_bool (has_lied_by peer.last))
value_of_peer of_peer.SilentSeconds peer = peer.silent_seconds
value_of_peer of_peer.AskedFrames peer = Some peer.asked

-- the value under this label, if it is known
abbrev pub sample_if : Label → Option ℕ → List Sample
sample_if label None = []
sample_if label (Some value) = record { label = label; value = value } ∷ []

abbrev pub sample_of_peer : OfPeer → PeerFigures → List Sample
sample_of_peer figure peer = sample_if (label.Peer peer.peer) (value_of_peer figure peer)

-- the fronts of the accounts from a number on
abbrev pub fronts_from : ℕ → List ℕ → List Sample
fronts_from account [] = []
fronts_from account (front ∷ fronts) =
    record { label = label.Account account; value = front } ∷ fronts_from (account + 1) fronts

abbrev pub lone : Option ℕ → List Sample
lone value = sample_if label.Nothing value

-- the values of a metric that are known
abbrev pub samples_of : NodeFigures → OwnFigures → Figure → List Sample
samples_of f own (Peer figure) = flat_map (sample_of_peer figure) f.peers.items
samples_of f own SettledEntries = fronts_from 0 f.member.fronts.items
samples_of f own Build = sample_if (label.Version own.version) (Some 1)
samples_of f own PeersMet = lone (Some (count_by is_met_peer f.peers.items))
samples_of f own PeersLost = lone (Some (count_by is_lost_peer f.peers.items))
samples_of f own Balance = lone (Some f.member.balance)
samples_of f own SentFrames = lone (Some f.member.sent)
samples_of f own HistoryEntries = lone (Some f.member.entries)
samples_of f own ValuesUsed = lone (Some f.member.used)
samples_of f own ValuesLeft = lone (Some (SEQS - f.member.used))
samples_of f own WaitingEntries = lone (Some f.member.waiting)
samples_of f own WaitingShort = lone (Some f.member.short)
samples_of f own DurableEntries = lone f.durable
samples_of f own LogBytes = lone own.log_bytes
samples_of f own ResidentBytes = lone own.resident_bytes
samples_of f own ReadsLeft = lone (Some own.reads_left)
samples_of f own StartTime = lone own.started_seconds

-- ---- lines

abbrev pub comment_line : List ℕ → List ℕ → List ℕ → List ℕ
comment_line mark name said = mark ++ name ++ codes " " ++ said ++ 10 ∷ []

-- a metric with a name that ends in this way only grows
abbrev pub type_of : List ℕ → List ℕ
type_of name =
    if ends_with nat_eq name (codes "_total") then codes "counter" else codes "gauge"

abbrev pub label_words : Label → List ℕ
label_words label.Nothing = []
label_words (label.Peer number) = codes "{peer=\"" ++ decimal number ++ codes "\"}"
label_words (label.Account number) = codes "{account=\"" ++ decimal number ++ codes "\"}"
label_words (label.Version version) = codes "{version=\"" ++ version.now ++ codes "\"}"

-- a value, such as `payd_peer_met{peer="1"} 1`
abbrev pub sample_line : List ℕ → Sample → List ℕ
sample_line name s =
    codes "payd_" ++ name ++ label_words s.label ++ codes " " ++ decimal s.value ++ 10 ∷ []

-- what a metric is, and its values; nothing for a metric without values
abbrev pub metric_words : List ℕ → List ℕ → List Sample → List ℕ
metric_words name help [] = []
metric_words name help (sample ∷ samples) =
    comment_line (codes "# HELP payd_") name help
    ++ comment_line (codes "# TYPE payd_") name (type_of name)
    ++ flat_map (sample_line name) (sample ∷ samples)

abbrev pub row_words : NodeFigures → OwnFigures → Row → List ℕ
row_words f own row = metric_words row.1 row.2 (samples_of f own row.0)

-- the text of all metrics
abbrev pub metrics_words : NodeFigures → OwnFigures → List ℕ
metrics_words f own = flat_map (row_words f own) metrics
