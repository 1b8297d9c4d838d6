pub mod HalfPixels
