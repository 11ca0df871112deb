pub mod LabelsStay
